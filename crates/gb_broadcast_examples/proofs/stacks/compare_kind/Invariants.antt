use Rattle.gb_types.specs.Common.{◌≤◌}
use Rattle.gb_broadcast_examples.proofs.stacks.compare_kind.Given as goal

abbrev pub invariant-loop-n : goal.invariant-loop-n
invariant-loop-n g l = l.lawful ≤ l.n
