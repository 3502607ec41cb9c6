use Rattle.gb_types.specs.Common.{◌≡◌, subst, IfOk}
use Rattle.gb_types.specs.declared.plan.Bounds.{Bounds}
use Rattle.gb_alone.specs.Alone as one_group
use Rattle.gb_alone.specs.Observation.{observed_alone}
use Rattle.gb_alone.proofs.alone.alone.Goals as goal

pub returns : goal.returns
returns c =
    let P : Bounds → Type 0 = λ b. IfOk c.seen_alone.result (λ o. o ≡ observed_alone b.nodes (one_group.alone b c.args.addr c.args.steps.now)) in
    subst P c.bounds.ensures c.seen_alone.ensures
