use Rattle.gb_types.specs.Common.{arith, common_steps}
use Rattle.gb_host.proofs.close.blanks.Goals as goal

pub loop-i-preserved : goal.loop-i-preserved
loop-i-preserved c = record {
  lists = omega (arith, c.push_reserved.ensures.len, c.loop-i.invariant.lists);
  given = omega (arith, c.push_reserved-in-loop-i.ensures.len, c.loop-i.invariant.given);
  room = (omega (arith, c.push_reserved.ensures.capacity, c.loop-i.invariant.room.0), omega (arith, c.push_reserved-in-loop-i.ensures.capacity, c.loop-i.invariant.room.1));
  blank = λ s. grind (arith, common_steps);
  sum = grind (arith, common_steps);
}
