use Rattle.gb_types.specs.Common.{ℕ, ◌<◌, ◌≡◌, []}
use Rattle.gb_merge.specs.Interleaving.{tape_of}
use Rattle.gb_merge.proofs.weave.all_empty.Given as goal

abbrev pub invariant-loop-left : goal.invariant-loop-left
invariant-loop-left l = (b : ℕ) → b < l.left-index → tape_of l.rest b ≡ []
