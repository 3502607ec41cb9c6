use Rattle.gb_types.specs.Common.{◌≡◌, ◌<◌, ℕ}
use Rattle.gb_host.specs.Calls.{calls_of, calls_at, numbered}
use Rattle.gb_host.specs.Closing.{tape_at, list_at}
use Rattle.gb_host.proofs.compare.differing.Given as goal

abbrev pub invariant-loop-k : goal.invariant-loop-k
invariant-loop-k l = (s k : ℕ) → k < l.k → calls_of s (tape_at l.tapes k) ≡ numbered 0 (calls_at k (list_at l.lists s))
