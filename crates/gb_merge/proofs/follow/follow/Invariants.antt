use Rattle.gb_merge.proofs.FollowingLemmas.{IsAt}
use Rattle.gb_merge.proofs.follow.follow.Given as goal

abbrev pub invariant-loop-i : goal.invariant-loop-i
invariant-loop-i l = IsAt l.fn.cluster.plan l.events l.order l.i l.cluster
