use Rattle.gb_types.specs.Common.{◌≡◌, ◌++◌, take, codes, flat_map}
use Rattle.gb_spelling.specs.Common.{entry_text}
use Rattle.gb_record_text.proofs.log.put_entries.Given as goal

abbrev pub invariant-loop-entry : goal.invariant-loop-entry
invariant-loop-entry l = l.out.items ≡ l.initial.out.items ++ flat_map (λ e. codes " " ++ entry_text e) (take l.entry-index l.entries)
