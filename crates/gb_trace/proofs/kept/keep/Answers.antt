use Rattle.gb_types.specs.Common.{◌∷◌, ℕ, set, sym, subst, reverse}
use Rattle.std.proofs.lemmas.Result.{on_ok_weaker}
use Rattle.gb_cluster.specs.Common.{NodeStep}
use Rattle.gb_trace.specs.Kept.{Keeps}
use Rattle.gb_trace.proofs.KeptLemmas.{nodes_go_on}
use Rattle.gb_trace.proofs.kept.keep.Goals as goal

pub returns : goal.returns
returns c =
    let m = c.args.moment in
    let plan = m.plan.now in
    let d : NodeStep = record { node = m.node; event = c.args.node_step.now.event; answer = c.args.node_step.now.answer } in
    let run = reverse m.before.now in
    let nodes = c.args.nodes.now.items in
    let new = c.keep_at.new.node in
    on_ok_weaker c.keep_at.result (λ kept. subst (λ (n : ℕ). Keeps plan m.addr (d ∷ run) (set nodes n new)) (sym c.index.ensures.value) (nodes_go_on plan m.addr d run nodes new kept c.requires.kept)) c.keep_at.ensures
