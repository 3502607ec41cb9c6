use Rattle.gb_types.specs.Common.{rules, ◌≡◌, ◌++◌, false, true, [], ◌∷◌, subst, IfOk}
use Rattle.gb_types.proofs.SameLemmas.{same_number}
use Rattle.gb_types.specs.declared.node.NodeId.{NodeId}
use Rattle.gb_host.specs.Happened.{GoesOn}
use Rattle.gb_host.specs.Nothing.{is_no_event, WasNoEvent}
use Rattle.gb_host.proofs.host.Host.call_or_skip.Goals as goal

pub returns-clause-past : goal.returns-clause-past
returns-clause-past g c =
    let number : c.deref_mut.result.now.me.number ≡ c.args.node.number = search rules in
    let is : c.deref_mut.result.now.me ≡ c.args.node = same_number c.deref_mut.result.now.me c.args.node number in
    subst (λ (n : NodeId). IfOk c.step_or_skip.result (λ a. is_no_event a ≡ false → GoesOn g.L.Tapes.plan n c.args.seat.now c.step_or_skip.new.seat c.args.event a)) is c.step_or_skip.ensures.goes_on

pub returns-clause-calls : goal.returns-clause-calls
returns-clause-calls g c =
    let number : c.deref_mut.result.now.me.number ≡ c.args.node.number = search rules in
    let is : c.deref_mut.result.now.me ≡ c.args.node = same_number c.deref_mut.result.now.me c.args.node number in
    subst (λ (n : NodeId). IfOk c.step_or_skip.result (λ a. is_no_event a ≡ false → c.step_or_skip.new.seat.calls ≡ c.args.seat.now.calls ++ record { node = n; event = c.args.event; answer = a } ∷ [])) is c.step_or_skip.ensures.calls

pub returns-clause-no_event : goal.returns-clause-no_event
returns-clause-no_event g c =
    let number : c.deref_mut.result.now.me.number ≡ c.args.node.number = search rules in
    let is : c.deref_mut.result.now.me ≡ c.args.node = same_number c.deref_mut.result.now.me c.args.node number in
    subst (λ (n : NodeId). IfOk c.step_or_skip.result (λ a. is_no_event a ≡ true → WasNoEvent g.L.Tapes.plan n c.args.seat.now c.args.event a)) is c.step_or_skip.ensures.no_event
