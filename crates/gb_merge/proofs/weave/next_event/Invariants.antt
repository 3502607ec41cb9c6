use Rattle.gb_types.specs.Common.{◌≡◌, ℕ, ◌<◌, length}
use Rattle.gb_merge.specs.Interleaving.{tape_of}
use Rattle.gb_merge.specs.Woven.{IsHeld, AreMarked}
use Rattle.gb_merge.proofs.weave.next_event.Given as goal

abbrev pub invariant-loop-i : goal.invariant-loop-i
invariant-loop-i l = record {
  marked : AreMarked l.reader l.marks.items l.sent l.rest;
  count : length l.marks.items ≡ length l.initial.marks.items;
  held : (b : ℕ) → b < l.i → IsHeld l.reader b l.sent (tape_of l.rest b);
}
