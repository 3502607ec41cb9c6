use Rattle.gb_types.specs.Common.{arith}
use Rattle.gb_types.proofs.ReadLemmas.{found}
use Rattle.gb_spelling.proofs.request_words.read_u32.Goals as goal

pub overflow_cast-result : goal.overflow_cast-result
overflow_cast-result c = let read = found _ c.in_ok-read_number.field-0 c.in_ok-read_number.ensures in omega arith
