use Rattle.gb_types.specs.Common.{◌≡◌, false, take}
use Rattle.gb_client.specs.Answers.{lines_of}
use Rattle.gb_client.proofs.show.entry_lines.Given as goal

abbrev pub invariant-loop-entry : goal.invariant-loop-entry
invariant-loop-entry l = l.is_text ≡ false → l.out.items ≡ lines_of (take l.entry-index l.entries)
