use Rattle.gb_types.specs.Common.{common_steps, arith}
use Rattle.gb_types.specs.declared.limits.TheConstants.{PAYLOAD}
use Rattle.gb_table.proofs.StepLemmas.{waiting_fits}
use Rattle.gb_table.proofs.packing.put_first.Goals as goal

pub put_item-requires-clause-payload : goal.put_item-requires-clause-payload
put_item-requires-clause-payload c = waiting_fits PAYLOAD c.args.slot.now c.args.dest.number 0 _ c.requires.short c.peek_at.ensures

pub put_item-requires-clause-room : goal.put_item-requires-clause-room
put_item-requires-clause-room c = grind (arith, common_steps)

pub returns-clause-written : goal.returns-clause-written
returns-clause-written c = grind (arith, common_steps)

pub returns-clause-len : goal.returns-clause-len
returns-clause-len c = grind (arith, common_steps)

pub returns-clause-fits : goal.returns-clause-fits
returns-clause-fits c = grind (arith, common_steps)
