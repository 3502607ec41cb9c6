-- The number of times that a relay sends a message, and hands it up.
use Rattle.std.proofs.Common.{◌≡◌, ℕ, ◌+◌, ◌≤◌, true, false, cond, List, [], ◌∷◌, ◌++◌, length, map, slice_get, count_by, refl, ap, ◌∙◌, sym, arith, subst, zero, suc}
use Rattle.std.specs.declared.{option.Option.Option, option.Option.TheVariants.None, option.Option.TheVariants.Some}
use Rattle.gb_types.specs.declared.{node.NodeId.NodeId, message.MsgId.MsgId}
use Rattle.gb_layer.specs.declared.{call.Call.Call, call.Call.TheVariants.Say, call.Call.TheVariants.Came, call.Call.TheVariants.Notice}
use Rattle.gb_types.proofs.BoolLemmas.{first_not, refuted_by}
use Rattle.gb_layer.specs.Counts.{cond_most, count_by-append, count_by-is_up}
use Rattle.gb_layer.specs.Machine.{Gives, nothing, after, all_ups, mentions, count_sends, is_of}
use Rattle.gb_layer.specs.Laws.{SendsWhatWasHandedIn, HandsUpWhatWasHandedIn, HandsUpOnce, SendsOnce}
use Rattle.gb_layer.specs.Rule.{Rules}
use Rattle.gb_layer.specs.Relay.{State, noted, noting, marked_sent, is_sent, is_repeat, relay, relay_any, begun, begun_sends, wants_delivery, due_message, relay_from, given, given_ups, relayed, relayed_sends, relay_next, relay_gives, IsNew}
use Rattle.gb_layer.specs.EntryLemmas.{given_for, given_taken_in, given_marked, given_noted, given_handed}
use Rattle.gb_layer.specs.EntryListLemmas.{mark_count}
use Rattle.gb_layer.specs.TraceLemmas.{trace}

module _ {S : Type 0} (next : S → Call → S) (gives : S → Call → Gives) (me : S → NodeId) (rules : Rules) where
  abbrev N : State S → Call → State S
  N = relay_next next gives me rules

  abbrev G : State S → Call → Gives
  G = relay_gives next gives me rules

  relay_count : (r : State S) (x m : MsgId) → count_by (given_for m) (relay next gives me r x).entries ≡ count_by (given_for m) r.entries
  relay_count r x m = given_taken_in (me r.lower) (gives r.lower (Say x)).ups (map (marked_sent x) r.entries) m ∙ given_marked x r.entries m

  any_count : (r : State S) (o : Option MsgId) (m : MsgId) → count_by (given_for m) (relay_any next gives me rules r o).entries ≡ count_by (given_for m) r.entries
  any_count r None m = refl
  any_count r (Some x) m = relay_count r x m

  from_count : (n i : ℕ) (r : State S) (m : MsgId) → count_by (given_for m) (relay_from next gives me rules n i r).entries ≡ count_by (given_for m) r.entries
  from_count zero i r m = refl
  from_count (suc n) i r m =
      let o = due_message next gives me rules r (slice_get r.entries i) in
      from_count n (i + 1) (relay_any next gives me rules r o) m ∙ any_count r o m

  begun_count : (r : State S) (c : Call) (m : MsgId) → count_by (given_for m) (begun next gives me r c).entries ≡ count_by (given_for m) r.entries
  begun_count r (Say x) m =
      elim (is_sent r.entries x) as (λ b. count_by (given_for m) (cond b r (relay next gives me (noting r x) x)).entries ≡ count_by (given_for m) r.entries) [
        | true ↦ refl
        | false ↦ relay_count (noting r x) x m ∙ given_noted r.entries x m
      ]
  begun_count r (Came p x) m = given_taken_in (me r.lower) (gives r.lower (Came p x)).ups (noted r.entries x) m ∙ given_noted r.entries x m
  begun_count r (Notice q) m = given_taken_in (me r.lower) (gives r.lower (Notice q)).ups r.entries m

  next_count : (r : State S) (c : Call) (m : MsgId) → count_by (given_for m) r.entries + count_by (is_of m) (G r c).ups ≡ count_by (given_for m) (N r c).entries
  next_count r c m =
      elim (is_repeat r c) as (λ b. count_by (given_for m) r.entries
      + count_by (is_of m) (cond b nothing (record { sends = begun_sends next gives me r c ++ relayed_sends next gives me rules (begun next gives me r c); ups = given_ups me rules (relayed next gives me rules (begun next gives me r c)) })).ups
      ≡ count_by (given_for m) (cond b r (given me rules (relayed next gives me rules (begun next gives me r c)))).entries) [
        | true ↦ omega arith
        | false ↦
            let b = begun next gives me r c in
            let t = relayed next gives me rules b in
            let h = given_handed (wants_delivery me rules t) (λ e w. first_not e.given _ w) t.entries m in
            let k : count_by (given_for m) t.entries ≡ count_by (given_for m) r.entries = from_count (length b.entries) 0 b m ∙ begun_count r c m in
            ap (λ n. n + count_by (is_of m) (given_ups me rules t)) (sym k) ∙ h
      ]

  -- each message came up as often as it is marked
  total : (s : State S) → s.entries ≡ [] → (past : List Call) (m : MsgId) → count_by (is_of m) (all_ups N G s past) ≡ count_by (given_for m) (after N s past).entries
  total s es [] m = ap (count_by (given_for m)) (sym es)
  total s es (c ∷ past) m =
      let a = count_by-append (is_of m) (all_ups N G s past) (G (after N s past) c).ups in
      let h = total s es past m in
      a ∙ (ap (λ n. n + count_by (is_of m) (G (after N s past) c).ups) h ∙ next_count (after N s past) c m)

  most : (s : State S) → s.entries ≡ [] → (past : List Call) (m : MsgId) → count_by (is_of m) (all_ups N G s past) ≤ cond (mentions past m) 1 0
  most s es past m =
      let t = trace next gives me rules 0 s.lower s refl es past in
      subst (λ (n : ℕ). n ≤ cond (mentions past m) 1 0) (sym (total s es past m)) (mark_count (λ e. e.m) (λ e. e.given) past (after N s past).entries m t.entries)

  module _ (is_fresh : S → Type 0) where
    pub relay_ups_handed_in : HandsUpWhatWasHandedIn N G (IsNew is_fresh)
    relay_ups_handed_in s past m f h =
        let k = most s f.entries past m in
        let e : cond {A = ℕ} (mentions past m) 1 0 ≡ 0 = ap (λ b. cond {A = ℕ} b 1 0) h in omega (arith, k, e)

    pub relay_up_once : HandsUpOnce N G (IsNew is_fresh) (λ r. me r.lower)
    relay_up_once s past via m f _ =
        let k = cond_most (mentions past m) _ (most s f.entries past m) in
        let w = count_by-is_up via m (all_ups N G s past) in omega (arith, k, w)

    pub relay_sends_handed_in : SendsWhatWasHandedIn next gives is_fresh → SendsWhatWasHandedIn N G (IsNew is_fresh)
    relay_sends_handed_in law s past m f h =
        let t = trace next gives me rules 0 s.lower s refl f.entries past in
        ap (count_sends m) t.sends ∙ law s.lower t.calls m f.lower (refuted_by (mentions t.calls m) (mentions past m) (t.known m) h)

    pub relay_sent_once : SendsOnce next gives is_fresh me → SendsOnce N G (IsNew is_fresh) (λ r. me r.lower)
    relay_sent_once law s past m f h =
        let t = trace next gives me rules (me s.lower).number s.lower s refl f.entries past in
        subst (λ (xs : List MsgId). count_sends m xs ≤ 1) (sym t.sends) (law s.lower t.calls m f.lower (t.fair h))
