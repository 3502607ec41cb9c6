use Rattle.gb_types.specs.Common.{◌≡◌, ◌++◌, take}
use Rattle.gb_slot.specs.Common.{waiting}
use Rattle.gb_group_run.proofs.answers.copy_waiting.Given as goal

abbrev pub invariant-loop-place : goal.invariant-loop-place
invariant-loop-place l = l.row ≡ l.initial.row ++ take l.place (waiting l.slot l.b.number)
