use Rattle.gb_types.specs.Common.{◌≡◌, ◌++◌, take}
use Rattle.gb_record_text.specs.RecordText.{entry_lines}
use Rattle.gb_redact.proofs.text.put_entries.Given as goal

abbrev pub invariant-loop-entry : goal.invariant-loop-entry
invariant-loop-entry l = l.out.items ≡ l.initial.out.items ++ entry_lines l.node (take l.entry-index l.entries)
