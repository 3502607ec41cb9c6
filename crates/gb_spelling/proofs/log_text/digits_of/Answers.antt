use Rattle.gb_types.specs.Common.{arith}
use Rattle.std.proofs.lemmas.Fmt.{length-decimal-le}
use Rattle.itoa.proofs.Decimal.{length_step_wide, length_one}
use Rattle.gb_spelling.proofs.log_text.digits_of.Goals as goal

pub overflow_add-count : goal.overflow_add-count
overflow_add-count c = let most = length-decimal-le 20 c.args.number (omega arith) (omega arith) (omega arith) in omega (arith, most, c.loop-left.invariant.0)

pub loop-left-preserved : goal.loop-left-preserved
loop-left-preserved c = let step = length_step_wide c.loop-left.left (omega arith) (omega arith) in (omega (arith, step, c.loop-left.invariant.0), omega (arith, c.loop-left.invariant.1))

pub returns : goal.returns
returns c = let one = length_one c.loop-left.left (omega arith) in omega (arith, one, c.loop-left.invariant.0)
