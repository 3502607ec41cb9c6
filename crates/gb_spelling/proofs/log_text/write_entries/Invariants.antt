use Rattle.gb_types.specs.Common.{◌≡◌, ◌+◌, ◌++◌, take, length, codes, flat_map}
use Rattle.gb_spelling.specs.ReplyText.{entry_text}
use Rattle.gb_spelling.proofs.log_text.write_entries.Given as goal

abbrev pub invariant-loop-entry : goal.invariant-loop-entry
invariant-loop-entry l = (l.at ≡ l.initial.at + length (flat_map (λ e. codes " " ++ entry_text e) (take l.entry-index l.entries)))
    × (take l.at l.bytes ≡ take l.initial.at l.initial.bytes ++ flat_map (λ e. codes " " ++ entry_text e) (take l.entry-index l.entries))
    × (length l.bytes ≡ length l.initial.bytes)
