use Rattle.gb_types.specs.Common.{◌≡◌, ◌++◌, take}
use Rattle.gb_record.proofs.recording.note.Given as goal

abbrev pub invariant-loop-entry : goal.invariant-loop-entry
invariant-loop-entry l = (l.written.log ≡ l.initial.written.log ++ take l.entry-index l.entries) × (l.written.book ≡ l.initial.written.book)
