use Rattle.gb_types.specs.Common.{◌≡◌, ◌++◌, map, take}
use Rattle.gb_record_text.specs.RecordText.{each_after_comma}
use Rattle.gb_replay.specs.ScheduleText.{version_byte}
use Rattle.gb_replay.proofs.lines.put_more.Given as goal

abbrev pub invariant-loop-version : goal.invariant-loop-version
invariant-loop-version l = l.out.items ≡ l.initial.out.items ++ each_after_comma (map version_byte (take l.version-index l.versions))
