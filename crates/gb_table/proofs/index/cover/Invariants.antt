use Rattle.gb_table.specs.Covered.{HaveWord, HaveGrown}
use Rattle.gb_table.proofs.index.cover.Given as goal

abbrev pub invariant-loop-index : goal.invariant-loop-index
invariant-loop-index l = record {
  grown : HaveGrown l.fn.sets l.sets;
  words : HaveWord l.index l.place l.members l.sets;
}
