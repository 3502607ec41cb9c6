use Rattle.gb_record.specs.Gathered.{IsGathered}
use Rattle.gb_record.proofs.gather.gather.Given as goal

abbrev pub invariant-takes : goal.invariant-takes
invariant-takes g l = IsGathered l.initial.recorder l.recorder l.initial.lines.items l.lines.items l.initial.kept.items l.kept.items
