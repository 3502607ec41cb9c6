use Rattle.gb_types.specs.Common.{length}
use Rattle.gb_merge.specs.Woven.{HasStranger}
use Rattle.gb_merge.proofs.stranger.has_stranger.Given as goal

-- the rest has one if and only if the whole has one
abbrev pub invariant-loop-entry : goal.invariant-loop-entry
invariant-loop-entry l =
    (HasStranger l.reader l.a l.sent l.left → HasStranger l.reader l.a l.sent l.fn.left) × (HasStranger l.reader l.a l.sent l.fn.left → HasStranger l.reader l.a l.sent l.left)

abbrev pub decreases-loop-entry : goal.decreases-loop-entry
decreases-loop-entry l = length l.left
