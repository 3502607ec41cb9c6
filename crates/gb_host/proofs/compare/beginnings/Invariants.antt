use Rattle.gb_types.specs.Common.{◌≡◌, ℕ, vec_len, vec_capacity, ◌≤◌, length}
use Rattle.gb_host.specs.Walk.{cursor_at}
use Rattle.gb_host.proofs.compare.beginnings.Given as goal

abbrev pub invariant-loop-s : goal.invariant-loop-s
invariant-loop-s l = record {
  as_many : vec_len l.cursors ≡ l._s;
  room : length l.lists ≤ vec_capacity l.cursors;
  zero : (s : ℕ) → cursor_at l.cursors.items s ≡ record { place = 0; count = 0 };
}
