use Rattle.gb_types.specs.Common.{◌≡◌, ◌++◌, length, map, drop}
use Rattle.gb_record_text.specs.RecordText.{each_after_comma}
use Rattle.gb_audit_group.proofs.lines.put_more.Given as goal

abbrev pub invariant-loop-entries : goal.invariant-loop-entries
invariant-loop-entries l = l.out.items ++ each_after_comma (map length (drop l.entries-index l.carried)) ≡ l.initial.out.items ++ each_after_comma (map length l.carried)
