use Rattle.gb_types.specs.Common.{arith}
use Rattle.gb_host.proofs.HereLemmas.{none_here, whole_more, within_more}
use Rattle.gb_host.proofs.here.all_nodes.Goals as goal

pub loop-number-init : goal.loop-number-init
loop-number-init c = (λ k under. absurd (omega (arith, under)), none_here c.new-here.result c.new-here.ensures)

pub loop-number-preserved : goal.loop-number-preserved
loop-number-preserved c =
    let here = c.loop-number.here in
    let n = c.loop-number.number in
    let now = c.insert.ensures in
    let at = c.new.ensures in (
      λ k under. whole_more here c.insert.new.self n c.new.result.number now at c.loop-number.invariant.0 k under,
      λ k there. within_more here c.insert.new.self n c.new.result.number now at c.loop-number.invariant.1 k there,
    )
