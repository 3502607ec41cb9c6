use Rattle.gb_types.specs.Common.{arith}
use Rattle.gb_frame.proofs.item.put_item.Goals as goal

pub returns-clause-fits : goal.returns-clause-fits
returns-clause-fits c = let k = c.are_bytes.ensures in let payload = c.requires.payload in record { tenant = omega arith; group = omega arith; generation = c.requires.generation; origin = omega arith; seq = omega arith; bytes = k; length = payload }
