use Rattle.gb_types.specs.Common.{length, All}
use Rattle.gb_record_text.specs.Fits.{FitsEntry}
use Rattle.gb_record_text.proofs.RecordLemmas.{AreRead}
use Rattle.gb_record_text.proofs.reader.read_lines.Given as goal

abbrev pub invariant-lines : goal.invariant-lines
invariant-lines l = AreRead l.node l.found.entries.items l.found.is_whole l.rest l.text × All FitsEntry l.found.entries.items

abbrev pub decreases-lines : goal.decreases-lines
decreases-lines l = length l.rest
