use Rattle.gb_types.specs.Common.{◌≡◌, ◌∙◌, Option, Some, subst, sym}
use Rattle.gb_node.specs.declared.answer.NodeAnswer.{NodeAnswer}
use Rattle.gb_worker.specs.Gained.{IsCalled}
use Rattle.gb_worker.proofs.CallLemmas.{stops_once, stops_same}
use Rattle.gb_worker.proofs.calling.make.Goals as goal

pub returns-then-is_stopped-clause-stopped : goal.returns-then-is_stopped-clause-stopped
returns-then-is_stopped-clause-stopped g c =
    let there : c.in-Ok-Some.field-0 ≡ Some c.in-Ok-Some.answer = cc (c.in-Ok-Some.field-0-is, c.in-Ok-Some.answer-is) in
    let called = subst (λ (o : Option NodeAnswer). IsCalled c.args.me c.args.event o c.args.seat.now.calls c.ask.new.seat.calls) there c.in-Ok-Some.ensures.called in
    stops_once c.args.seat.now.calls c.ask.new.seat.calls c.args.me c.args.event c.in-Ok-Some.answer called (sym c.is_stopped.ensures ∙ c.if-is_stopped.true)

pub returns-clause-stops : goal.returns-clause-stops
returns-clause-stops g c =
    let there : c.in-Ok-Some.field-0 ≡ Some c.in-Ok-Some.answer = cc (c.in-Ok-Some.field-0-is, c.in-Ok-Some.answer-is) in
    let called = subst (λ (o : Option NodeAnswer). IsCalled c.args.me c.args.event o c.args.seat.now.calls c.ask.new.seat.calls) there c.in-Ok-Some.ensures.called in
    stops_same c.args.seat.now.calls c.ask.new.seat.calls c.args.me c.args.event c.in-Ok-Some.answer called (sym c.is_stopped.ensures ∙ c.if-is_stopped.false)
