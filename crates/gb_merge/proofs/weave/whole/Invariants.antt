use Rattle.gb_types.specs.Common.{◌≡◌, take}
use Rattle.gb_merge.proofs.weave.whole.Given as goal

abbrev pub invariant-loop-tape : goal.invariant-loop-tape
invariant-loop-tape l = l.rest.items ≡ take l.tape-index l.tapes
