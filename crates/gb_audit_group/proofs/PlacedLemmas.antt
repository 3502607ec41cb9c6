-- Merged events are at nodes of the cluster.
use Rattle.gb_types.specs.Common.{◌≡◌, List, [], ◌∷◌, ◌++◌, map, ap, sym, subst, ◌∙◌, append_assoc, ℕ, All, append-nil, reverse-append, All-cons, All-nil}
use Rattle.gb_types.specs.declared.plan.Plan.{Plan}
use Rattle.gb_node.specs.declared.tape.TapeEntry.{TapeEntry}
use Rattle.gb_cluster.specs.Common.{IsPlaced, ClusterValue, NodeStep, ComesTo}
use Rattle.gb_cluster.specs.declared.event.Event.{Event}
use Rattle.gb_merge.specs.Common.{IsMergedFront, Pick, sent_by, AreEvents, did, run_of}
use Rattle.gb_merge.proofs.ActingLemmas.{placed_so}
use Rattle.gb_isolation.proofs.MomentLemmas.{back, placed}

placed_in : (plan : Plan) (sent : List (List ℕ)) (picks : List Pick) (events : List Event) (behind : List NodeStep) (v : ClusterValue) → ComesTo plan (run_of picks ++ behind) v → AreEvents plan sent picks events → All (IsPlaced plan.nodes) events
unfolding AreEvents
placed_in plan sent [] [] behind v comes are = All-nil (IsPlaced plan.nodes)
placed_in plan sent [] (e ∷ events) behind v comes are = absurd are
placed_in plan sent (p ∷ picks) [] behind v comes are = absurd are
placed_in plan sent (p ∷ picks) (e ∷ events) behind v comes are =
    let longer : run_of (p ∷ picks) ++ behind ≡ run_of picks ++ did p ∷ behind = ap (λ (run : List NodeStep). run ++ behind) (reverse-append (did p ∷ []) (map did picks)) ∙ append_assoc (run_of picks) (did p ∷ []) behind in
    let here : ComesTo plan (run_of picks ++ did p ∷ behind) v = subst (λ (run : List NodeStep). ComesTo plan run v) longer comes in
    let there = back plan (run_of picks) (did p ∷ behind) v here in
    All-cons (IsPlaced plan.nodes) e events (placed_so plan plan.nodes p.node sent p.entry.event e (placed plan (did p) behind there.0 there.1) are.0)
    (placed_in plan (sent ++ sent_by p.entry.answer) picks events (did p ∷ behind) v here are.1)

-- each merged event is at a node of the cluster
pub placed_front : (plan : Plan) (tapes : List (List TapeEntry)) (events : List Event) → IsMergedFront plan tapes events → All (IsPlaced plan.nodes) events
placed_front plan tapes events m = placed_in plan [] m.picks events [] m.last (subst (λ (run : List NodeStep). ComesTo plan run m.last) (sym (append-nil (run_of m.picks))) m.comes) m.are_events
