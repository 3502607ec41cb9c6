use Rattle.std.proofs.Common.{sym, ◌∙◌, ap}
use Rattle.gb_past.proofs.Steps.{finds_moves}
use Rattle.gb_past.proofs.past.new_cell.Goals as goal

pub compare_exchange-requires : goal.compare_exchange-requires
compare_exchange-requires g c =
    let h = c.requires in
    let offer = c.plain-offer.ensures in
    let pen = c.no_pen-pen.ensures in (
      ap (λ w. w.tracked) h,
      ap (λ s. s.book) c.again-marks.ensures ∙ sym (ap (λ w. w.book) h),
      pen.0 ∙ (ap (λ s. s.book) c.again-marks.ensures ∙ sym (ap (λ w. w.book) h)),
      offer.0,
      rw (ap (λ w. w.key) h, pen.1, offer.3) (finds_moves c.again-marks.result.log c.plain-offer.result.ask),
    )
