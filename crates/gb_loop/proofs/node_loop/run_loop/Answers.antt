use Rattle.gb_types.specs.Common.{List, ap, ◌∙◌, subst}
use Rattle.gb_types.specs.declared.node.NodeId.{NodeId}
use Rattle.gb_node.specs.declared.step.NodeStep.{NodeStep}
use Rattle.gb_host.specs.Common.{SeatValue}
use Rattle.gb_mail.specs.Mailed.{HasCalled, HasMailed}
use Rattle.gb_mail.specs.declared.mail.Origin.{Origin}
use Rattle.gb_loop.proofs.node_loop.run_loop.Goals as goal

pub returns-in-Ok-clause-here : goal.returns-in-Ok-clause-here
returns-in-Ok-clause-here g c =
    let By : NodeId → Type 0 = λ n. ∥ HasCalled n c.args.seat.calls c.into_parts.result.seat.calls ∥₁ in
    let From : List NodeStep → Type 0 = λ l. ∥ HasCalled c.into_parts.result.node l c.into_parts.result.seat.calls ∥₁ in
    subst By (c.into_parts.ensures.node ∙ (ap (λ (o : Origin g.row.L.Denot g.row.P.Denot). o.node) (c.run.ensures.origin ∙ c.in-Ok.ensures.made) ∙ c.new-mail.ensures.origin.0)) (subst From (ap (λ (o : Origin g.row.L.Denot g.row.P.Denot). o.seat.value.calls) (c.run.ensures.origin ∙ c.in-Ok.ensures.made) ∙ ap (λ (s : SeatValue). s.calls) c.new-mail.ensures.origin.2) c.into_parts.ensures.here)

pub returns-in-Ok-clause-mailed : goal.returns-in-Ok-clause-mailed
returns-in-Ok-clause-mailed g c =
    let By : NodeId → Type 0 = λ n. ∥ HasMailed g.L.Tapes.plan n g.P.Port.sends g.P.Port.receives 0 c.into_parts.result.lost c.run.new.self.mail.origin.port.value c.into_parts.result.port c.run.new.self.mail.origin.seat.value.calls c.into_parts.result.seat.calls ∥₁ in
    let first = subst By (c.into_parts.ensures.node ∙ (ap (λ (o : Origin g.row.L.Denot g.row.P.Denot). o.node) (c.run.ensures.origin ∙ c.in-Ok.ensures.made) ∙ c.new-mail.ensures.origin.0)) c.into_parts.ensures.mailed in
    let Begun : g.row.P.Denot → Type 0 = λ p. ∥ HasMailed g.L.Tapes.plan c.args.sockets.node g.P.Port.sends g.P.Port.receives 0 c.into_parts.result.lost p c.into_parts.result.port c.args.seat.calls c.into_parts.result.seat.calls ∥₁ in
    let From : List NodeStep → Type 0 = λ l. ∥ HasMailed g.L.Tapes.plan c.args.sockets.node g.P.Port.sends g.P.Port.receives 0 c.into_parts.result.lost c.run.new.self.mail.origin.port.value c.into_parts.result.port l c.into_parts.result.seat.calls ∥₁ in
    subst Begun (ap (λ (o : Origin g.row.L.Denot g.row.P.Denot). o.port.value) (c.run.ensures.origin ∙ c.in-Ok.ensures.made) ∙ c.new-mail.ensures.origin.1) (subst From (ap (λ (o : Origin g.row.L.Denot g.row.P.Denot). o.seat.value.calls) (c.run.ensures.origin ∙ c.in-Ok.ensures.made) ∙ ap (λ (s : SeatValue). s.calls) c.new-mail.ensures.origin.2) first)

pub returns-in-Err-clause-here : goal.returns-in-Err-clause-here
returns-in-Err-clause-here g c =
    let By : NodeId → Type 0 = λ n. ∥ HasCalled n c.args.seat.calls c.into_parts-in-Err.result.seat.calls ∥₁ in
    let From : List NodeStep → Type 0 = λ l. ∥ HasCalled c.into_parts-in-Err.result.node l c.into_parts-in-Err.result.seat.calls ∥₁ in
    subst By (c.into_parts-in-Err.ensures.node ∙ (ap (λ (o : Origin g.row.L.Denot g.row.P.Denot). o.node) (c.in-Err.ensures.back) ∙ c.new-mail.ensures.origin.0)) (subst From (ap (λ (o : Origin g.row.L.Denot g.row.P.Denot). o.seat.value.calls) (c.in-Err.ensures.back) ∙ ap (λ (s : SeatValue). s.calls) c.new-mail.ensures.origin.2) c.into_parts-in-Err.ensures.here)

pub returns-in-Err-clause-mailed : goal.returns-in-Err-clause-mailed
returns-in-Err-clause-mailed g c =
    let By : NodeId → Type 0 = λ n. ∥ HasMailed g.L.Tapes.plan n g.P.Port.sends g.P.Port.receives 0 c.into_parts-in-Err.result.lost c.in-Err.mail.origin.port.value c.into_parts-in-Err.result.port c.in-Err.mail.origin.seat.value.calls c.into_parts-in-Err.result.seat.calls ∥₁ in
    let first = subst By (c.into_parts-in-Err.ensures.node ∙ (ap (λ (o : Origin g.row.L.Denot g.row.P.Denot). o.node) (c.in-Err.ensures.back) ∙ c.new-mail.ensures.origin.0)) c.into_parts-in-Err.ensures.mailed in
    let Begun : g.row.P.Denot → Type 0 = λ p. ∥ HasMailed g.L.Tapes.plan c.args.sockets.node g.P.Port.sends g.P.Port.receives 0 c.into_parts-in-Err.result.lost p c.into_parts-in-Err.result.port c.args.seat.calls c.into_parts-in-Err.result.seat.calls ∥₁ in
    let From : List NodeStep → Type 0 = λ l. ∥ HasMailed g.L.Tapes.plan c.args.sockets.node g.P.Port.sends g.P.Port.receives 0 c.into_parts-in-Err.result.lost c.in-Err.mail.origin.port.value c.into_parts-in-Err.result.port l c.into_parts-in-Err.result.seat.calls ∥₁ in
    subst Begun (ap (λ (o : Origin g.row.L.Denot g.row.P.Denot). o.port.value) (c.in-Err.ensures.back) ∙ c.new-mail.ensures.origin.1) (subst From (ap (λ (o : Origin g.row.L.Denot g.row.P.Denot). o.seat.value.calls) (c.in-Err.ensures.back) ∙ ap (λ (s : SeatValue). s.calls) c.new-mail.ensures.origin.2) first)
