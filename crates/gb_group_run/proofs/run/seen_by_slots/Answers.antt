use Rattle.gb_types.specs.Common.{◌≡◌, ◌+◌, List, length, take, ap, sym, subst, ◌∙◌, map, IfOk, fold_more}
use Rattle.gb_alone.specs.Alone as one_group
use Rattle.gb_alone.specs.Common.{SeenAt, observed_alone}
use Rattle.gb_alone.proofs.ObservationLemmas.{take_short}
use Rattle.gb_group_run.specs.SlotMember.{SlotMember, slot_members_after, seen_of}
use Rattle.gb_group_run.proofs.SeenLemmas.{seen_is}
use Rattle.gb_group_run.proofs.Stands.{AllStand}
use Rattle.gb_group_run.proofs.StepLemmas.{none_stand, inside_after, step_stands}
use Rattle.gb_group_run.proofs.run.seen_by_slots.Goals as goal

pub loop-step-init : goal.loop-step-init
loop-step-init c = record {
  laws = record {
    fresh = c.stands.ensures.fresh;
    moved = c.stands.ensures.opened;
    said = c.stands.ensures.said;
    came = c.stands.ensures.came;
    noticed = c.stands.ensures.noticed;
    done = c.stands.ensures.done;
    took = c.stands.ensures.took;
    log = c.stands.ensures.log;
    falls = c.stands.ensures.falls;
    waiting_said = c.stands.ensures.waiting_said;
    waiting_came = c.stands.ensures.waiting_came;
    waiting_noticed = c.stands.ensures.waiting_noticed;
    waiting_took = c.stands.ensures.waiting_took;
    waiting_elsewhere = c.stands.ensures.waiting_elsewhere;
  };
  all = subst (λ (vs : List SlotMember). AllStand vs one_group.nobody) (sym c.in_ok-group.ensures) none_stand;
  size = ap length c.in_ok-group.ensures;
}

pub loop-step-preserved : goal.loop-step-preserved
loop-step-preserved c =
    let bounds = c.args.bounds.now in
    let addr = c.args.address in
    let steps = c.args.steps.now in
    let i = c.loop-step.step-index in
    let s = c.step-item.result in
    let before = one_group.alone bounds addr (take i steps) in
    let more : one_group.after bounds addr before s ≡ one_group.alone bounds addr (take (i + 1) steps) =
    ap (one_group.after bounds addr before) c.step-item.is ∙ sym (fold_more (one_group.after bounds addr) one_group.nobody steps i s c.loop-step-test.true) in
    let next = step_stands c.loop-step.invariant.laws bounds addr c.loop-step.group.items before s c.requires (inside_after bounds addr (take i steps)) c.in_ok-step_at.ensures.items c.loop-step.invariant.all in
    let all = subst (λ (vs : List SlotMember). AllStand vs (one_group.alone bounds addr (take (i + 1) steps))) (sym c.in_ok-step_at.ensures.state) (subst (AllStand (slot_members_after bounds addr c.loop-step.group.items s)) more next) in
    record { laws = c.loop-step.invariant.laws; all = all; size = all.size }

pub returns : goal.returns
returns c =
    let bounds = c.args.bounds.now in
    let vs : List SlotMember = c.loop-step.group.items in
    let steps = c.args.steps.now in
    let all = ap (one_group.alone bounds c.args.address) (take_short c.loop-step.step-index steps c.loop-step-test.false) in
    let same : map (seen_of bounds.nodes) (take bounds.nodes vs) ≡ observed_alone bounds.nodes (one_group.alone bounds c.args.address steps) =
    seen_is bounds.nodes vs (one_group.alone bounds c.args.address (take c.loop-step.step-index steps)) c.requires c.loop-step.invariant.all ∙ ap (observed_alone bounds.nodes) all in
    let P : List SeenAt → Type 0 = λ seen. IfOk c.all_seen.result (λ o. o ≡ seen) in
    subst P same c.all_seen.ensures
