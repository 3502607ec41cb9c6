use Rattle.gb_types.specs.Common.{◌≡◌, ◌≤◌, take, zip, count_by}
use Rattle.gb_cap.specs.Compare.{are_unlike}
use Rattle.gb_cap.proofs.compare.count_differences.Given as goal

abbrev pub invariant-loop-i : goal.invariant-loop-i
invariant-loop-i l = (l.count ≡ count_by are_unlike (take l.i (zip l.first l.second))) × (l.count ≤ l.i)
