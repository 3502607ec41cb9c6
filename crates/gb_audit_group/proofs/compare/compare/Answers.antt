use Rattle.gb_types.specs.Common.{List, ap, sym, ◌∙◌, subst, bounds_of}
use Rattle.gb_alone.specs.Common.{alone, IsLegal, observed_alone}
use Rattle.gb_cluster.specs.Common.{NodeStep}
use Rattle.gb_isolation.specs.{Isolation.alone_in, Project.project}
use Rattle.gb_merge.proofs.RerunLemmas.{NodeLaws}
use Rattle.gb_trace.specs.{Observed.observed, Trace.run_of}
use Rattle.gb_audit_group.proofs.PlacedLemmas.{placed_front}
use Rattle.gb_audit_group.proofs.RerunLemmas.{recorded}
use Rattle.gb_audit_group.proofs.compare.compare.Goals as goal

pub run-requires-clause-placed : goal.run-requires-clause-placed
run-requires-clause-placed c = placed_front c.args.plan.now c.requires.merged.0 c.args.events.now c.requires.merged.1

pub returns : goal.returns
returns c tapes m =
    let t = c.in_ok-trace.trace in
    let plan = c.args.plan.now in
    let events = c.args.events.now in
    let r = c.in_ok-trace.ensures.run in
    let run = run_of events t.answers.items t.packets.items in
    let by_itself = c.in_ok-by_itself.ensures ∙ ap (λ steps. observed_alone plan.nodes (alone (bounds_of plan) c.args.addr steps)) (c.deref.ensures.value ∙ c.in_ok-steps.ensures) in
    let isolated = r.3 c.if-trace.false c.args.addr in
    let equal = c.isolated_groups_are_seen_alone.ensures plan run r.0 c.args.addr c.requires.plan.few isolated in
    let laws : NodeLaws = record { pasts = c.pasts_say.ensures; senders = c.packets_say.ensures.senders; starved = c.packets_say.ensures.starved } in
    let is = recorded laws c.packets_are_honest.ensures plan tapes events m t.answers.items t.packets.items r.0 r.1 (sym c.in_ok-trace.ensures.refused ∙ c.if-trace.false) in
    let seen = c.in_ok-seen.ensures ∙ ap (λ (dids : List NodeStep). observed plan c.args.addr dids) is in
    let alone_is = by_itself ∙ ap (λ (dids : List NodeStep). observed_alone plan.nodes (alone_in plan c.args.addr dids)) is in
    record {
      seen = seen;
      alone = alone_is;
      legal = subst (λ (dids : List NodeStep). IsLegal (bounds_of plan) c.args.addr (project plan c.args.addr dids)) is isolated.legal;
      same = (λ yes. sym seen ∙ (c.is_same-is_same.ensures.0 yes ∙ alone_is), λ so. c.is_same-is_same.ensures.1 (seen ∙ (so ∙ sym alone_is)));
      sure = c.is_same-is_same.ensures.1 (c.in_ok-seen.ensures ∙ (equal ∙ sym by_itself));
    }
