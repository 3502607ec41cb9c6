use Rattle.gb_types.specs.Common.{◌≤◌, ◌∙◌, sym, ap, arith}
use Rattle.std.specs.FinSet as set
use Rattle.gb_types.specs.declared.limits.TheConstants.{LAST_FRAME}
use Rattle.gb_link.proofs.ReceivedLemmas.{covered_slide, odd_base}
use Rattle.gb_link.proofs.receiver.slid.Goals as goal

pub overflow_add-base : goal.overflow_add-base
overflow_add-base c =
    let kept = c.loop-mask.invariant in
    let there = odd_base c.loop-mask.base c.loop-mask.mask kept.word kept.started c.loop-mask-test.true in
    let last : c.loop-mask.base ≤ LAST_FRAME = c.requires.last c.loop-mask.base (ap (λ s. set.contains s c.loop-mask.base) (sym kept.same) ∙ there) in
    omega arith

pub loop-mask-preserved : goal.loop-mask-preserved
loop-mask-preserved c =
    let kept = c.loop-mask.invariant in
    record {
      same = covered_slide c.loop-mask.base c.loop-mask.mask kept.word c.loop-mask-test.true ∙ kept.same;
      started = omega arith;
      word = omega (arith, kept.word);
    }
