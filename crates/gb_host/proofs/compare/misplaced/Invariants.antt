use Rattle.gb_types.specs.Common.{◌≡◌, ◌<◌, ◌≤◌, ℕ, []}
use Rattle.gb_host.specs.Calls.{calls_at}
use Rattle.gb_host.specs.Closing.{list_at}
use Rattle.gb_host.proofs.compare.misplaced.Given as goal

abbrev pub invariant-loop-s : goal.invariant-loop-s
invariant-loop-s l = (s k : ℕ) → s < l.s → l.nodes ≤ k → calls_at k (list_at l.lists s) ≡ []
