use Rattle.gb_types.specs.Common.{arith, common_steps}
use Rattle.gb_spelling.proofs.log_text.put_entries.Goals as goal

pub returns-clause-ok : goal.returns-clause-ok
returns-clause-ok c = grind (arith, common_steps)
