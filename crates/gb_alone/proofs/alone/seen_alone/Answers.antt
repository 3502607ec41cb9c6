use Rattle.gb_types.specs.Common.{length, ◌∙◌, ap, sym, subst, List, fold, replicate}
use Rattle.gb_types.specs.declared.limits.TheConstants.{NODES}
use Rattle.gb_alone.specs.Alone as one_group
use Rattle.gb_alone.specs.MemberLists.{MemberValue, new_member, values_after, StandForMembers}
use Rattle.gb_alone.proofs.ObservationLemmas.{take_short}
use Rattle.gb_alone.proofs.MemberListLemmas.{alone_listed, more_values, length_after}
use Rattle.gb_alone.proofs.alone.seen_alone.Goals as goal

pub loop-step-init : goal.loop-step-init
loop-step-init c = (c.in_ok-group.ensures, ap length c.in_ok-group.ensures)

pub loop-step-preserved : goal.loop-step-preserved
loop-step-preserved c =
    let s = c.step-item.result in
    let more = more_values c.args.bounds.now c.args.address c.args.steps.now (replicate NODES new_member) c.loop-step.step-index s c.loop-step-test.true c.step-item.is in (
      c.in_ok-step_at.ensures ∙ (ap (λ (vs : List MemberValue). values_after c.args.bounds.now c.args.address vs s) c.loop-step.invariant.0 ∙ sym more),
      ap length c.in_ok-step_at.ensures ∙ (length_after c.args.bounds.now c.args.address c.loop-step.group.items s ∙ c.loop-step.invariant.1),
    )

pub returns : goal.returns
returns c =
    let g = one_group.alone c.args.bounds.now c.args.address c.args.steps.now in
    let all = ap (fold (values_after c.args.bounds.now c.args.address) (replicate NODES new_member)) (take_short c.loop-step.step-index c.args.steps.now c.loop-step-test.false) in
    let P : List MemberValue → Type 0 = λ vs. StandForMembers vs g in
    c.all_seen.ensures g (subst P (sym (c.deref.ensures.value ∙ (c.loop-step.invariant.0 ∙ all))) (alone_listed c.args.bounds.now c.args.address c.args.steps.now))
