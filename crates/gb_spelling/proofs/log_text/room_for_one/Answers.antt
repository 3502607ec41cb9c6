use Rattle.gb_types.specs.Common.{rules}
use Rattle.gb_spelling.proofs.LogTextLemmas.{entry_room}
use Rattle.gb_spelling.proofs.log_text.room_for_one.Goals as goal

pub returns : goal.returns
returns c = let room = entry_room c.args.entry.now (search rules) in search (rules, room)
