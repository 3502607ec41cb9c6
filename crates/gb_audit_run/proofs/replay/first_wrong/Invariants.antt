use Rattle.gb_types.specs.Common.{◌≡◌, take, All}
use Rattle.gb_record_text.specs.Laws.{IsAnswered}
use Rattle.gb_merge.specs.Common.{replay}
use Rattle.gb_audit_run.specs.Replayed.{AreReplayedTo}
use Rattle.gb_audit_run.proofs.replay.first_wrong.Given as goal

abbrev pub invariant-loop-place : goal.invariant-loop-place
invariant-loop-place l =
    (l.node ≡ replay l.fn.plan l.fn.me (take l.place l.entries)) × AreReplayedTo l.fn.plan l.fn.me l.entries l.place × All IsAnswered (take l.place l.entries)
