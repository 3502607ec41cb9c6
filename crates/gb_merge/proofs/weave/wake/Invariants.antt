use Rattle.gb_types.specs.Common.{◌≡◌, ◌<◌, ℕ, length, true, false, slice_index_or}
use Rattle.gb_merge.specs.Interleaving.{tape_of}
use Rattle.gb_merge.specs.Woven.{AwaitsOther}
use Rattle.gb_merge.proofs.weave.wake.Given as goal

abbrev pub invariant-loop-i : goal.invariant-loop-i
invariant-loop-i l = record {
  count : length l.marks.items ≡ length l.initial.marks.items;
  old : (a : ℕ) → slice_index_or l.marks.items a false ≡ true → slice_index_or l.initial.marks.items a false ≡ true;
  awaits : (a : ℕ) → a < l.i → slice_index_or l.marks.items a false ≡ true → AwaitsOther l.bytes (tape_of l.rest a);
}
