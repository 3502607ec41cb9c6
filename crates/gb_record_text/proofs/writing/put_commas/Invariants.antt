use Rattle.gb_types.specs.Common.{◌≡◌, ◌++◌, length, rising_from}
use Rattle.gb_record_text.specs.RecordText.{each_after_comma}
use Rattle.gb_record_text.proofs.writing.put_commas.Given as goal

abbrev pub invariant-all : goal.invariant-all
invariant-all l = l.out.items ++ each_after_comma (rising_from l.members l.from) ≡ l.fn.out.items ++ each_after_comma (rising_from l.members l.fn.start)

abbrev pub decreases-all : goal.decreases-all
decreases-all l = length (rising_from l.members l.from)
