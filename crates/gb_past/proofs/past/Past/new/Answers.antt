use Rattle.std.proofs.Common.{◌≡◌, true, sym, ◌∙◌, ap}
use Rattle.logbook.specs.Pages.{may_write, left_with}
use Rattle.gb_past.specs.Marks.{last_key}
use Rattle.gb_past.proofs.Lists.{story_none}
use Rattle.gb_past.proofs.Steps.{begins_moves}
use Rattle.gb_past.proofs.past.Past.new.Goals as goal

pub compare_exchange-requires : goal.compare_exchange-requires
compare_exchange-requires g c =
    let open' = c.open-marks.ensures in
    let head = c.tracked-head.ensures.0 in
    let book : c.tracked-head.result.book ≡ c.open-marks.result.0.book = ap (λ w. w.book) head ∙ open'.2 in
    let key : c.tracked-head.result.key ≡ 0 = ap (λ w. w.key) head ∙ ap (λ p. p.key) open'.4 in
    let pen = c.no_pen-pen.ensures in
    let offer = c.plain-offer.ensures in (
      ap (λ w. w.tracked) head,
      sym book,
      pen.0 ∙ sym book,
      offer.0,
      rw (key, pen.1, offer.3) (begins_moves c.open-marks.result.0.log c.plain-offer.result.ask),
    )

pub invariant_of-result : goal.invariant_of-result
invariant_of-result g c =
    let open' = c.open-marks.ensures in
    let head = c.tracked-head.ensures.0 in
    let step = c.compare_exchange.ensures in
    let begins = step.7 in
    let cell = c.tracked-cell.ensures in
    let after = c.compare_exchange.new.seen.log in
    let key = ap (λ p. p.key) open'.4 in
    let book = open'.2 ∙ sym step.0 in
    let right : c.tracked-cell.new.pen.nib.right ≡ may_write = ap (λ p. p.right) cell.2 ∙ ap left_with begins.0 in
    let pen_key : c.tracked-cell.new.pen.nib.key ≡ c.compare_exchange.new.pen.nib.key = ap (λ p. p.key) cell.2 in
    record {
      head_is = head ∙ (λ i. record { tracked = true; key = key i; book = book i });
      pen_is = cell.1 ∙ (step.5 ∙ (c.no_pen-pen.ensures.0 ∙ sym step.0));
      writes = right;
      key = pen_key ∙ sym (ap (λ k. last_key k after) begins.1 ∙ begins.2);
      story = rw (begins.1, begins.3) (story_none g.S.Story.goes_on);
    }
