use Rattle.gb_types.specs.Common.{subst, All, take_all, All-more}
use Rattle.gb_spelling.specs.Common.{FitsEntry}
use Rattle.gb_record_text.proofs.fits.log_fits.Goals as goal

pub loop-entry-preserved : goal.loop-entry-preserved
loop-entry-preserved c =
    All-more FitsEntry c.args.entries.now c.loop-entry.entry-index c.entry-item.result c.loop-entry-test.true c.loop-entry.invariant (subst FitsEntry c.entry-item.is c.log_entry_fits.ensures)

pub returns : goal.returns
returns c = subst (All FitsEntry) (take_all c.loop-entry.entry-index c.args.entries.now c.loop-entry-test.false) c.loop-entry.invariant
