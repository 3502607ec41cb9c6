use Rattle.gb_types.specs.Common.{◌≡◌, take}
use Rattle.gb_merge.specs.Fed.{fed_tapes}
use Rattle.gb_merge.proofs.weave.whole_fed.Given as goal

abbrev pub invariant-loop-tape : goal.invariant-loop-tape
invariant-loop-tape l = l.rest.items ≡ fed_tapes (take l.tape-index l.tapes)
