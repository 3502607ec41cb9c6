use Rattle.gb_types.specs.Common.{◌≡◌, length}
use Rattle.gb_merge.specs.Fed.{fed_of}
use Rattle.gb_merge.proofs.rest.after_refused.Given as goal

abbrev pub invariant-loop-first : goal.invariant-loop-first
invariant-loop-first l = fed_of l.left ≡ fed_of l.entries

abbrev pub decreases-loop-first : goal.decreases-loop-first
decreases-loop-first l = length l.left
