use Rattle.gb_types.specs.Common.{◌≡◌, ℕ, [], length, vec_len, sum_by, vec_capacity, ◌≤◌}
use Rattle.gb_host.specs.Closing.{list_at}
use Rattle.gb_host.proofs.close.blanks.Given as goal

abbrev pub invariant-loop-i : goal.invariant-loop-i
invariant-loop-i l = record {
  lists : vec_len l.lists ≡ l._i;
  given : vec_len l.given ≡ l._i;
  room : (l.count ≤ vec_capacity l.lists) × (l.count ≤ vec_capacity l.given);
  blank : (s : ℕ) → list_at l.lists.items s ≡ [];
  sum : sum_by length l.lists.items ≡ 0;
}
