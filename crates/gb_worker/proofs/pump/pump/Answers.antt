use Rattle.gb_types.specs.Common.{◌≡◌, ◌∙◌, refl, arith, subst, ap, ℕ}
use Rattle.gb_worker.specs.Turns.{HasPumped}
use Rattle.gb_worker.specs.declared.{end.WorkerEnd.WorkerEnd, end.Why.TheVariants.Turns, end.Why.TheVariants.Gate}
use Rattle.gb_worker.proofs.CarryLemmas.{carried_more, carried_none, ok_is_no_fault, err_is_no_fault}
use Rattle.gb_worker.proofs.TurnLemmas.{turns_none, turns_more, pumped_whole}
use Rattle.gb_worker.proofs.pump.pump.Goals as goal

pub loop-made-init : goal.loop-made-init
loop-made-init g c = record {
  turned = λ none. turns_none c.args.node c.plan-nodes.result.cluster.nodes c.args.seat.now.calls;
  carried = λ none. carried_none g.P.Port.sends g.P.Port.receives c.args.port.now c.args.seat.now.calls;
  same = refl;
  uncounted = λ _. refl;
  stops = refl;
}

pub returns-then-not-pass-clause-pumped : goal.returns-then-not-pass-clause-pumped
returns-then-not-pass-clause-pumped g c = λ none.
    let end : WorkerEnd = record { turns = c.loop-made.made; refused = c.loop-made.refused; why = Gate } in
    let P : ℕ → Type 0 = λ n. HasPumped c.args.node n end c.args.seat.now.calls c.loop-made.seat.calls in
    subst P (ap (λ p. p.cluster.nodes) c.plan-nodes.ensures.is.0)
    (pumped_whole c.args.node c.plan-nodes.result.cluster.nodes end c.args.seat.now.calls c.loop-made.seat.calls c.plan-nodes.ensures.limits.nodes (c.loop-made.invariant.turned none))

pub returns-in-Err-clause-carried : goal.returns-in-Err-clause-carried
returns-in-Err-clause-carried g c = λ none not_fault.
    carried_more g.P.Port.sends g.P.Port.receives c.args.port.now c.loop-made.port c.make_turn.new.port c.args.seat.now.calls c.loop-made.seat.calls c.make_turn.new.seat.calls
    (c.loop-made.invariant.carried (c.in-Err.ensures.counts none)) (c.in-Err.ensures.carried none (err_is_no_fault c.in-Err.why not_fault))

pub loop-made-preserved : goal.loop-made-preserved
loop-made-preserved g c = record {
  turned = λ none.
      turns_more c.args.node c.plan-nodes.result.cluster.nodes c.loop-made.made c.args.seat.now.calls c.loop-made.seat.calls c.make_turn.new.seat.calls (c.loop-made.invariant.turned (c.in-Ok.ensures.counts none)) (c.in-Ok.ensures.turned none);
  carried = λ none.
      carried_more g.P.Port.sends g.P.Port.receives c.args.port.now c.loop-made.port c.make_turn.new.port c.args.seat.now.calls c.loop-made.seat.calls c.make_turn.new.seat.calls
      (c.loop-made.invariant.carried (c.in-Ok.ensures.counts none)) (c.in-Ok.ensures.carried none (ok_is_no_fault c.in-Ok.field-0));
  same = c.in-Ok.ensures.number ∙ c.loop-made.invariant.same;
  uncounted = λ sure. c.in-Ok.ensures.uncounted sure ∙ c.loop-made.invariant.uncounted sure;
  stops = c.in-Ok.ensures.stops ∙ c.loop-made.invariant.stops;
}

pub returns-clause-pumped : goal.returns-clause-pumped
returns-clause-pumped g c = λ none.
    let end : WorkerEnd = record { turns = c.args.turns; refused = c.loop-made.refused; why = Turns } in
    let P : ℕ → Type 0 = λ n. HasPumped c.args.node n end c.args.seat.now.calls c.loop-made.seat.calls in
    let all : c.loop-made.made ≡ c.args.turns = omega arith in
    subst P (ap (λ p. p.cluster.nodes) c.plan-nodes.ensures.is.0)
    (pumped_whole c.args.node c.plan-nodes.result.cluster.nodes end c.args.seat.now.calls c.loop-made.seat.calls c.plan-nodes.ensures.limits.nodes (rw all at (c.loop-made.invariant.turned none)))
