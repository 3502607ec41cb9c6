use Rattle.gb_types.specs.Common.{◌≡◌, ◌+◌, ◌≤◌, decimal, length}
use Rattle.gb_spelling.proofs.log_text.digits_of.Given as goal

abbrev pub invariant-loop-left : goal.invariant-loop-left
invariant-loop-left l = (l.count + length (decimal l.left) ≡ 1 + length (decimal l.number)) × (l.left ≤ l.number)

abbrev pub decreases-loop-left : goal.decreases-loop-left
decreases-loop-left l = l.left
