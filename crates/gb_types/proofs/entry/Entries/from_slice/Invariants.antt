use Rattle.std.proofs.Common.{◌≡◌, take}
use Rattle.gb_types.proofs.entry.Entries.from_slice.Given as goal

abbrev pub invariant-loop-entry : goal.invariant-loop-entry
invariant-loop-entry l = l.copied ≡ take l.entry-index l.entries
