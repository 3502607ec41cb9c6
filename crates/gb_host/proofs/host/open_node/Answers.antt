use Rattle.gb_types.specs.Common.{◌≡◌, ◌<◌, ◌∙◌, subst}
use Rattle.gb_node.specs.Common.{ComesTo}
use Rattle.gb_host.specs.Plans.{plan_of}
use Rattle.gb_host.specs.Replay.{past_of}
use Rattle.gb_host.specs.declared.plan.HostPlan.{HostPlan}
use Rattle.gb_host.proofs.BegunLemmas.{past_begun}
use Rattle.gb_host.proofs.host.open_node.Goals as goal

pub kept_at-requires-clause-past : goal.kept_at-requires-clause-past
kept_at-requires-clause-past g c =
    let b = c.args.begun in
    let law = c.comes.ensures in
    let is : b.plan ≡ g.L.Tapes.plan = c.requires.plan.1 ∙ c.requires.plan.0 in
    rw (c.me.ensures, c.past.ensures) (past_begun g.L.Tapes.plan g.L.Tapes.books b.me b.node b.past (subst (λ (p : HostPlan). b.me.number < p.cluster.nodes) is law.1) c.requires.book
    (subst (λ (p : HostPlan). ComesTo (plan_of p b.me) (past_of b.past.log) b.node) is law.2))
