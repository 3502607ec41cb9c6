use Rattle.gb_types.specs.Common.{◌≡◌, ◌++◌, length}
use Rattle.gb_merge.specs.Faults.{sent_of}
use Rattle.gb_merge.proofs.stranger.post_all.Given as goal

abbrev pub invariant-loop-entry : goal.invariant-loop-entry
invariant-loop-entry l = l.sent ++ sent_of l.left ≡ l.initial.sent ++ sent_of l.fn.left

abbrev pub decreases-loop-entry : goal.decreases-loop-entry
decreases-loop-entry l = length l.left
