use Rattle.gb_types.specs.Common.{◌<◌, ◌≤◌, ◌∷◌, ◌++◌, ◌∙◌, List, length, take, arith, ap, sym, subst, reverse}
use Rattle.gb_cluster.specs.Common.{NodeStep}
use Rattle.gb_isolation.specs.Project.{gives, project}
use Rattle.gb_trace.specs.Kept.{Keeps}
use Rattle.gb_trace.proofs.KeptLemmas.{nodes_new}
use Rattle.gb_trace.proofs.PastLemmas.{newest, whole, none_projected, more_projected}
use Rattle.gb_trace.proofs.projection.of_node_steps.Goals as goal

pub loop-i-init : goal.loop-i-init
loop-i-init c = (c.new-steps.ensures.items ∙ sym (none_projected c.args.plan.now c.args.addr), nodes_new c.args.plan.now c.args.addr c.in_ok-nodes.nodes.items (omega arith) c.in_ok-nodes.ensures)

pub loop-i-preserved : goal.loop-i-preserved
loop-i-preserved c =
    let plan = c.args.plan.now in
    let g = c.args.addr in
    let ds = c.args.node_steps.now in
    let i = c.loop-i.i in
    let d = c.index-node_steps-i.result in
    let run = reverse (take i ds) in
    let lt : i < length ds = omega arith in
    let later = newest ds i d lt c.index-node_steps-i.is in (
      c.in_ok-of_node_step.ensures ∙ (ap (λ xs. xs ++ gives plan g run d.node d.event d.answer) c.loop-i.invariant.0 ∙ sym (ap (project plan g) later ∙ more_projected plan g run d)),
      subst (λ (r : List NodeStep). Keeps plan g r c.keep.new.nodes.items) (sym later) c.in_ok-keep.ensures,
    )

pub returns : goal.returns
returns c =
    let ds = c.args.node_steps.now in
    let all : length ds ≤ c.loop-i.i = omega arith in
    c.loop-i.invariant.0 ∙ ap (λ xs. project c.args.plan.now c.args.addr (reverse xs)) (whole ds c.loop-i.i all)
