use Rattle.gb_types.specs.Common.{◌≡◌, ◌≢◌, List, ap, refl, sym, ◌∙◌, length, arith, inl, inr, cases_lt, cases_eq, get_or-set_same, get_or-set_other, length-set}
use Rattle.gb_slot.specs.Common.{slot_noticed}
use Rattle.gb_table.specs.SlotsValue.{Row, row_at, on_slot, no_row}
use Rattle.gb_table.proofs.MemberLemmas.{member_in, unnoticed, noticed_all}
use Rattle.gb_table.proofs.groups.Groups.notice.Goals as goal

pub loop-place-init : goal.loop-place-init
loop-place-init c = record { length = refl; before = λ p h. absurd (omega arith); later = λ p h. refl; rooms = refl; cursors = refl }

pub loop-place-preserved : goal.loop-place-preserved
loop-place-preserved c =
    let i = c.loop-place.invariant in
    let place = c.in-Some.place in
    let old = c.args.self.now.rows in
    let rows = c.loop-place.self.rows in
    let f = on_slot (slot_noticed c.args.who) in
    let next = c.in-Some.ensures in
    let after = c.notice_at.ensures.rows in
    let other : (p : _) → p ≢ place → row_at c.notice_at.new.self.rows p ≡ row_at rows p = λ p ne. ap (λ (rs : List Row). row_at rs p) after ∙ get_or-set_other rows place p (f (row_at rows place)) no_row ne in
    record {
      length = ap length after ∙ length-set rows place (f (row_at rows place)) ∙ i.length;
      before = λ p h. elim (cases_lt p c.loop-place.from) [
        | inl l ↦ let ne : p ≢ place = let a = next.after in omega arith in other p ne ∙ i.before p l
        | inr l ↦ elim (cases_eq p place) [
          | inl e ↦
              ap (λ n. row_at c.notice_at.new.self.rows n) e ∙ ap (λ (rs : List Row). row_at rs place) after ∙ get_or-set_same rows place (f (row_at rows place)) no_row next.within
              ∙ ap f (i.later place next.after) ∙ sym (ap (λ n. f (row_at old n)) e)
          | inr ne ↦
              let same = i.later p l in
              let none = ap (member_in c.args.who.number) (sym same) ∙ next.none p l (omega arith) in
              other p ne ∙ same ∙ sym (unnoticed c.args.who (row_at old p) none)
        ]
      ];
      later = λ p h. let ne : p ≢ place = omega arith in let a = next.after in other p ne ∙ i.later p (omega arith);
      rooms = c.notice_at.ensures.rooms ∙ i.rooms;
      cursors = c.notice_at.ensures.cursors ∙ i.cursors;
    }

pub returns-clause-rows : goal.returns-clause-rows
returns-clause-rows c =
    let i = c.loop-place.invariant in
    let old = c.args.self.now.rows in
    noticed_all c.args.who old c.loop-place.self.rows i.length
    (λ p. elim (cases_lt p c.loop-place.from) [
      | inl l ↦ i.before p l
      | inr l ↦
          let same = i.later p l in
          let none = ap (member_in c.args.who.number) (sym same) ∙ c.in_default.ensures p l in
          same ∙ sym (unnoticed c.args.who (row_at old p) none)
    ])
