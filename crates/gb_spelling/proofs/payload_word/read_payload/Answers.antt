use Rattle.gb_types.specs.Common.{arith, common_steps}
use Rattle.gb_spelling.proofs.payload_word.read_payload.Goals as goal

pub returns-in-45 : goal.returns-in-45
returns-in-45 c = grind (arith, common_steps)
