use Rattle.gb_types.specs.Common.{◌≡◌, ◌<◌, ◌≤◌, ℕ, false, same}
use Rattle.gb_layer.specs.PlacedCalls.{message_at}
use Rattle.gb_layer.proofs.index.Index.look_up.Given as goal

abbrev pub invariant-loop-i : goal.invariant-loop-i
invariant-loop-i l = record {
  none : (k : ℕ) → l.initial.i ≤ k → k < l.i → same (message_at l.self.list.items k) l.m ≡ false;
}
