-- The laws of a layer hold also where its state is one case of another state.
use Rattle.std.proofs.Common.{◌≡◌, ℕ, ◌≤◌, true, false, List, [], ◌∷◌, ◌++◌, count_by, refl, ap, ◌∙◌, sym, subst}
use Rattle.gb_types.specs.declared.{node.NodeId.NodeId, message.MsgId.MsgId}
use Rattle.gb_layer.specs.declared.{effects.Up.Up, call.Call.Call, call.Call.TheVariants.Notice}
use Rattle.gb_layer.specs.Common.{SendsWhatWasHandedIn, HandsUpWhatWasHandedIn, HandsUpOnce, SendsOnce, NoticesOnce, Gives, nothing, after, all_sends, all_ups, mentions, was_noticed, IsFair, count_sends, is_up, is_of}

module _ {S T : Type 0} (next : S → Call → S) (gives : S → Call → Gives) (next' : T → Call → T) (gives' : T → Call → Gives) (into : S → T)
    (same_next : (s : S) (c : Call) → next' (into s) c ≡ into (next s c)) (same_gives : (s : S) (c : Call) → gives' (into s) c ≡ gives s c) where
  pub after_into : (s : S) (past : List Call) → after next' (into s) past ≡ into (after next s past)
  after_into s [] = refl
  after_into s (c ∷ past) = ap (λ t. next' t c) (after_into s past) ∙ same_next (after next s past) c

  pub gives_into : (s : S) (past : List Call) (c : Call) → gives' (after next' (into s) past) c ≡ gives (after next s past) c
  gives_into s past c = ap (λ t. gives' t c) (after_into s past) ∙ same_gives (after next s past) c

  sends_into : (s : S) (past : List Call) → all_sends next' gives' (into s) past ≡ all_sends next gives s past
  sends_into s [] = refl
  sends_into s (c ∷ past) = λ i. sends_into s past i ++ (gives_into s past c i).sends

  pub ups_into : (s : S) (past : List Call) → all_ups next' gives' (into s) past ≡ all_ups next gives s past
  ups_into s [] = refl
  ups_into s (c ∷ past) = λ i. ups_into s past i ++ (gives_into s past c i).ups

  module _ (is_fresh : S → Type 0) where
    pub sends_handed_in_into : SendsWhatWasHandedIn next gives is_fresh → (s : S) (past : List Call) (m : MsgId) → is_fresh s → mentions past m ≡ false → count_sends m (all_sends next' gives' (into s) past) ≡ 0
    sends_handed_in_into law s past m f h = ap (count_sends m) (sends_into s past) ∙ law s past m f h

    pub ups_handed_in_into : HandsUpWhatWasHandedIn next gives is_fresh → (s : S) (past : List Call) (m : MsgId) → is_fresh s → mentions past m ≡ false → count_by (is_of m) (all_ups next' gives' (into s) past) ≡ 0
    ups_handed_in_into law s past m f h = ap (count_by (is_of m)) (ups_into s past) ∙ law s past m f h

    pub up_once_into : (me : S → NodeId) → HandsUpOnce next gives is_fresh me → (s : S) (past : List Call) (via : ℕ) (m : MsgId) → is_fresh s → IsFair (me s).number past → count_by (is_up via m) (all_ups next' gives' (into s) past) ≤ 1
    up_once_into me law s past via m f h = subst (λ (us : List Up). count_by (is_up via m) us ≤ 1) (sym (ups_into s past)) (law s past via m f h)

    pub sent_once_into : (me : S → NodeId) → SendsOnce next gives is_fresh me → (s : S) (past : List Call) (m : MsgId) → is_fresh s → IsFair (me s).number past → count_sends m (all_sends next' gives' (into s) past) ≤ 1
    sent_once_into me law s past m f h = subst (λ (xs : List MsgId). count_sends m xs ≤ 1) (sym (sends_into s past)) (law s past m f h)

    pub noticed_once_into : NoticesOnce next gives is_fresh → (s : S) (past : List Call) (q : NodeId) → is_fresh s → was_noticed past q.number ≡ true
        → (next' (after next' (into s) past) (Notice q) ≡ after next' (into s) past) × (gives' (after next' (into s) past) (Notice q) ≡ nothing)
    noticed_once_into law s past q f h =
        let e = law s past q f h in (
          ap (λ t. next' t (Notice q)) (after_into s past) ∙ (same_next (after next s past) (Notice q) ∙ (ap into e.0 ∙ sym (after_into s past))),
          gives_into s past (Notice q) ∙ e.1,
        )
