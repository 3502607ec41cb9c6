use Rattle.gb_types.specs.Common.{◌≡◌, drop, length, vec_len}
use Rattle.gb_host.specs.Walk.{AreBounded, IsWalked}
use Rattle.gb_host.proofs.compare.differing_in.Given as goal

abbrev pub invariant-loop-noted : goal.invariant-loop-noted
invariant-loop-noted l = record {
  as_many : vec_len l.cursors ≡ length l.lists;
  bounded : AreBounded l.cursors.items l.lists;
  walked : IsWalked l.node l.tape l.lists (drop l.noted-index l.tape) l.cursors.items;
}
