use Rattle.gb_types.specs.Common.{◌≡◌, take}
use Rattle.gb_group_run.specs.SlotMember.{slot_marked}
use Rattle.gb_group_run.proofs.answers.mark_all.Given as goal

abbrev pub invariant-loop-x : goal.invariant-loop-x
invariant-loop-x l = l.slot ≡ slot_marked l.b (take l.x-index l.items) l.initial.slot
