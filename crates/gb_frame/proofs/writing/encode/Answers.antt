use Rattle.gb_types.specs.Common.{arith}
use Rattle.gb_frame.proofs.RoomLemmas.{count_fits}
use Rattle.gb_frame.proofs.VersionLemmas.{room_within}
use Rattle.gb_frame.proofs.writing.encode.Goals as goal

pub overflow_cast-count : goal.overflow_cast-count
overflow_cast-count c = let few = count_fits c.args.packet.now.version c.args.packet.now.items.items in let room = c.requires.limits.room in let len = c.len-count.ensures in omega (arith, few, room, len, room_within c.args.packet.now.version)
