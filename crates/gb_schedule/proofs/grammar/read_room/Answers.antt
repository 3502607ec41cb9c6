use Rattle.gb_types.specs.Common.{arith}
use Rattle.gb_types.proofs.ReadLemmas.{found}
use Rattle.gb_schedule.proofs.grammar.read_room.Goals as goal

pub overflow_cast-result : goal.overflow_cast-result
overflow_cast-result c = let read = found _ c.in_ok-room-in-len1.room c.in_ok-room-in-len1.ensures in omega arith
