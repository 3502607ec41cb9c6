use Rattle.gb_types.specs.Common.{◌≡◌, ◌≤◌, ℕ, drop}
use Rattle.gb_host.specs.Calls.{calls_at}
use Rattle.gb_host.proofs.compare.is_misplaced.Given as goal

abbrev pub invariant-loop-made : goal.invariant-loop-made
invariant-loop-made l = (k : ℕ) → l.nodes ≤ k → calls_at k l.list ≡ calls_at k (drop l.made-index l.list)
