use Rattle.gb_types.specs.Common.{ℕ, ◌≡◌, ◌<◌, true}
use Rattle.std.specs.FinSet as set
use Rattle.gb_host.proofs.here.all_nodes.Given as goal

abbrev pub invariant-loop-number : goal.invariant-loop-number
invariant-loop-number l = ((k : ℕ) → k < l.number → set.contains l.here k ≡ true) × ((k : ℕ) → set.contains l.here k ≡ true → k < l.number)
