use Rattle.gb_types.specs.Common.{arith, common_steps}
use Rattle.gb_spelling.proofs.log_text.write_entry.Goals as goal

pub returns-clause-end : goal.returns-clause-end
returns-clause-end c = grind (arith, common_steps)

pub returns-clause-text : goal.returns-clause-text
returns-clause-text c = grind (arith, common_steps)

pub write_byte-at-requires-2 : goal.write_byte-at-requires-2
write_byte-at-requires-2 c = grind (arith, common_steps)

pub write_byte-at-requires-3 : goal.write_byte-at-requires-3
write_byte-at-requires-3 c = grind (arith, common_steps)

pub write_number-at-requires : goal.write_number-at-requires
write_number-at-requires c = grind (arith, common_steps)

pub write_number-at-requires-2 : goal.write_number-at-requires-2
write_number-at-requires-2 c = grind (arith, common_steps)

pub write_payload-requires : goal.write_payload-requires
write_payload-requires c = grind (arith, common_steps)
