use Rattle.gb_types.specs.Common.{◌≡◌, subst, IfOk}
use Rattle.gb_types.specs.declared.plan.Bounds.{Bounds}
use Rattle.gb_alone.specs.Alone as one_group
use Rattle.gb_alone.specs.Common.{observed_alone}
use Rattle.gb_group_run.proofs.run.alone_by_slots.Goals as goal

pub returns : goal.returns
returns c =
    let P : Bounds → Type 0 = λ b. IfOk c.seen_by_slots.result (λ o. o ≡ observed_alone b.nodes (one_group.alone b c.args.addr c.args.steps.now)) in
    subst P c.bounds.ensures c.seen_by_slots.ensures
