-- Marks stay right as entries are taken: a packet that is sent wakes the nodes to which it comes next.
use Rattle.gb_types.specs.Common.{◌≡◌, ℕ, zero, suc, ◌⊎◌, List, [], ◌∷◌, ◌++◌, Bool, true, false, inl, inr, refl, sym, ◌∙◌, ap, subst, get_or, slice_set, slice_index_or, replicate, cases_eq, get_or-set_other}
use Rattle.gb_types.specs.declared.{node.NodeId.NodeId, plan.Plan.Plan}
use Rattle.gb_node.specs.Common.{node_numbered}
use Rattle.gb_node.specs.declared.{answer.NodeAnswer.NodeAnswer, event.NodeEvent.NodeEvent, tape.TapeEntry.TapeEntry, answer.Sent.TheVariants.Packet as SentPacket, answer.Sent.TheVariants.Nothing, answer.Sent.TheVariants.Refused as Unsent}
use Rattle.gb_node.specs.declared.answer.NodeAnswer.TheVariants.{Reply, Taken, Sent, Ticked, Halted}
use Rattle.gb_node.specs.declared.event.NodeEvent.TheVariants.{Request, Packet, Pack, Again, Ack, Tick, Stop}
use Rattle.gb_node.proofs.TookLemmas.{numbered_is}
use Rattle.gb_cluster.specs.declared.event.Event.{Event}
use Rattle.gb_merge.specs.Interleaving.{sent_by, tape_of}
use Rattle.gb_merge.specs.Faults.{IsBlocked}
use Rattle.gb_merge.specs.Woven.{IsHeld, AreMarked, AreWoken, AwaitsOther, CanGo}
use Rattle.gb_merge.proofs.AmongLemmas.{In, in_at, at_in, in_either}
use Rattle.gb_merge.proofs.HoldingLemmas.{not_blocked}

only_one : (b : List ℕ) (g : NodeAnswer) → In b (sent_by g) → sent_by g ≡ b ∷ []
unfolding In
only_one b (Reply reply) there = absurd there
only_one b (Taken taken) there = absurd there
only_one b (Ticked ticked) there = absurd there
only_one b (Halted halted) there = absurd there
only_one b (Sent Nothing) there = absurd there
only_one b (Sent (Unsent why)) there = absurd there
only_one b (Sent (SentPacket bytes)) (inl same) = ap (λ (x : List ℕ). x ∷ []) same
only_one b (Sent (SentPacket bytes)) (inr there) = absurd there

blocked_more : (plan : Plan) (c : NodeId) (sent : List (List ℕ)) (g : NodeAnswer) (x : NodeEvent) → ((bytes : List ℕ) → sent_by g ≡ bytes ∷ [] → x ≡ Packet bytes → ⊥) → IsBlocked plan c sent x → IsBlocked plan c (sent ++ sent_by g) x
blocked_more plan c sent g (Request request) others blocked = blocked
blocked_more plan c sent g (Pack b) others blocked = blocked
blocked_more plan c sent g (Again b n) others blocked = blocked
blocked_more plan c sent g (Ack b) others blocked = blocked
blocked_more plan c sent g Tick others blocked = blocked
blocked_more plan c sent g Stop others blocked = blocked
blocked_more plan c sent g (Packet bytes) others blocked = (blocked.0, λ k at. by (in_either bytes sent (sent_by g) (in_at bytes (sent ++ sent_by g) k at)))
  where
    by : In bytes sent ⊎ In bytes (sent_by g) → ⊥
    by (inl before) = let at = at_in bytes sent before in blocked.1 at.0 at.1
    by (inr new) = others bytes (only_one bytes g new) refl

held_more : (plan : Plan) (c : ℕ) (sent : List (List ℕ)) (g : NodeAnswer) (left : List TapeEntry) → ((bytes : List ℕ) → sent_by g ≡ bytes ∷ [] → AwaitsOther bytes left) → IsHeld plan c sent left → IsHeld plan c (sent ++ sent_by g) left
held_more plan c sent g [] others held = tt
held_more plan c sent g (x ∷ left) others held = blocked_more plan (node_numbered c) sent g x.event others held

pub marked_on : (plan : Plan) (marks woken : List Bool) (sent more : List (List ℕ)) (rest : List (List TapeEntry)) (a : NodeId) (e : Event) (x : TapeEntry) (left : List TapeEntry) → AreMarked plan marks sent rest → CanGo plan rest sent a e → more ≡ sent ++ sent_by x.answer → AreWoken marks (slice_set rest a.number left) x.answer woken
    → AreMarked plan woken more (slice_set rest a.number left)
marked_on plan marks woken sent more rest a e x left marked go more_is wakes c at = subst (λ (s : List (List ℕ)). IsHeld plan c s (tape_of (slice_set rest a.number left) c)) (sym more_is) (by (cases_eq a.number c))
  where
    was : (slice_index_or marks c false ≡ true) × ((bytes : List ℕ) → sent_by x.answer ≡ bytes ∷ [] → AwaitsOther bytes (tape_of (slice_set rest a.number left) c))
    was = wakes c at

    free : a.number ≡ c → ⊥
    free here =
        not_blocked plan a sent sent go.entry.event e (λ b there. there) go.is
        (subst (λ (n : NodeId). IsBlocked plan n sent go.entry.event) (numbered_is a) (subst (IsHeld plan a.number sent) go.next (marked a.number (subst (λ d. slice_index_or marks d false ≡ true) (sym here) was.0))))

    by : (a.number ≡ c) ⊎ (a.number ≡ c → ⊥) → IsHeld plan c (sent ++ sent_by x.answer) (tape_of (slice_set rest a.number left) c)
    by (inl here) = absurd (free here)
    by (inr away) =
        let kept : tape_of (slice_set rest a.number left) c ≡ tape_of rest c = get_or-set_other rest a.number c left [] (λ same. away (sym same)) in
        held_more plan c sent x.answer (tape_of (slice_set rest a.number left) c) was.1 (subst (IsHeld plan c sent) (sym kept) (marked c was.0))

none_set : (n a : ℕ) → get_or (replicate n false) a false ≡ false
none_set zero a = refl
none_set (suc n) zero = refl
none_set (suc n) (suc a) = none_set n a

-- no mark
pub unmarked : (plan : Plan) (marks : List Bool) (n : ℕ) (sent : List (List ℕ)) (rest : List (List TapeEntry)) → marks ≡ replicate n false → AreMarked plan marks sent rest
unmarked plan marks n sent rest is a at = absurd (let none = ap (λ (bs : List Bool). get_or bs a false) is ∙ none_set n a in let e : true ≡ false = sym at ∙ none in cc)
