use Rattle.gb_types.specs.Common.{◌∷◌}
use Rattle.gb_alone.specs.Common.{nobody, alone}
use Rattle.gb_duties.proofs.FlowLemmas.{nobody_flows, run_flows, legal_parts}
use Rattle.gb_group_run.proofs.LegalLemmas.{may_have}
use Rattle.gb_group_run.proofs.laws.legal_steps_have_items.Goals as goal

pub returns : goal.returns
returns c = λ bounds addr earlier later step legal.
    let parts = legal_parts bounds addr earlier (step ∷ later) nobody legal in
    let flow = run_flows bounds addr earlier nobody parts.0 nobody_flows in
    may_have step.node step.event (alone bounds addr earlier) flow.come parts.1.0
