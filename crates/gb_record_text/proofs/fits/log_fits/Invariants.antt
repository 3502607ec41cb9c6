use Rattle.gb_types.specs.Common.{take, All}
use Rattle.gb_spelling.specs.Common.{FitsEntry}
use Rattle.gb_record_text.proofs.fits.log_fits.Given as goal

abbrev pub invariant-loop-entry : goal.invariant-loop-entry
invariant-loop-entry l = All FitsEntry (take l.entry-index l.entries)
