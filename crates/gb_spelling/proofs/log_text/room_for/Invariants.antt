use Rattle.gb_types.specs.Common.{◌≤◌, ◌++◌, take, length, codes, flat_map}
use Rattle.gb_spelling.specs.ReplyText.{entry_text}
use Rattle.gb_spelling.proofs.log_text.room_for.Given as goal

abbrev pub invariant-loop-entry : goal.invariant-loop-entry
invariant-loop-entry l = length (flat_map (λ e. codes " " ++ entry_text e) (take l.entry-index l.entries)) ≤ l.room
