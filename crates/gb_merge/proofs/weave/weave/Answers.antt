use Rattle.gb_merge.proofs.MarkingLemmas.{unmarked}
use Rattle.gb_merge.proofs.weave.weave.Goals as goal

pub weave_all-ended-requires-clause-marked : goal.weave_all-ended-requires-clause-marked
weave_all-ended-requires-clause-marked c = unmarked c.args.reader.now c.in_ok-marks.marks.items c.len.result c.new-sent.result c.args.rest.items (c.in_ok-marks.ensures.items_if_clones_equal (λ y e. e))
