use Rattle.gb_types.specs.Common.{sym, ◌∙◌, ap}
use Rattle.gb_merge.specs.Fed.{fed_of}
use Rattle.gb_merge.proofs.FedLemmas.{fed_of-refused}
use Rattle.gb_merge.proofs.rest.after_refused.Goals as goal

pub loop-first-preserved : goal.loop-first-preserved
loop-first-preserved c =
    let refused = sym c.wants_memory.ensures ∙ c.if-not-wants_memory.false in
    sym (ap fed_of c.in-Some.ensures.cases.0 ∙ fed_of-refused c.in-Some.first.now c.in-Some.rest.now refused) ∙ c.loop-first.invariant
