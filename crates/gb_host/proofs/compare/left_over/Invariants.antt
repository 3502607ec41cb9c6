use Rattle.gb_types.specs.Common.{◌≡◌, ◌<◌, ℕ, []}
use Rattle.gb_host.specs.Walk.{left_of}
use Rattle.gb_host.proofs.compare.left_over.Given as goal

abbrev pub invariant-loop-s : goal.invariant-loop-s
invariant-loop-s l = (s : ℕ) → s < l.s → left_of l.node l.lists l.cursors s ≡ []
