use Rattle.gb_types.specs.Common.{◌+◌, min, ◌∙◌, sym, arith, ℕ, same_number_lists, length-map}
use Rattle.std.proofs.lemmas.List.{get_or-map}
use Rattle.gb_detect.proofs.detector.count_tick.Goals as goal

pub returns : goal.returns
returns c =
    let one : ℕ → ℕ = λ ticks. min (ticks + 1) c.args.silence in
    let before = c.args.silences.now in
    let places = c.loop-ticks.invariant.places in
    let told = c.told-silences in
    let end = c.loop-ticks-test.false in
    same_number_lists _ _ (places ∙ sym (length-map before one))
    (λ k lt. c.loop-ticks.invariant.done k (omega (arith, lt, places, told, end)) ∙ sym (get_or-map one before k 0 0 (omega (arith, lt, places))))
