use Rattle.gb_types.specs.Common.{common_steps, arith}
use Rattle.gb_table.proofs.groups.Groups.addr.Goals as goal

pub unwrap-requires : goal.unwrap-requires
unwrap-requires c = grind (arith, common_steps)
