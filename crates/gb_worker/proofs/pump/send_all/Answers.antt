use Rattle.gb_types.specs.Common.{◌∙◌, refl, subst, ℕ, Bool}
use Rattle.std.specs.FinSet as set
use Rattle.gb_worker.specs.Gained.{Gains}
use Rattle.gb_worker.specs.Turns.{SendsTo, IsPartTo}
use Rattle.gb_worker.proofs.CarryLemmas.{carried_more, carried_none, ok_is_no_fault}
use Rattle.gb_worker.proofs.TurnLemmas.{sent_none, sent_more, sent_skip, sent_part}
use Rattle.gb_worker.proofs.pump.send_all.Goals.{then-number-turn+in-Ok, else-number-turn}
use Rattle.gb_worker.proofs.pump.send_all.Goals as goal

pub loop-number-init : goal.loop-number-init
loop-number-init g c = record {
  sent = λ none. sent_none c.args.turn.now.number c.args.turn.now.me c.args.heard.now c.args.seat.now.calls;
  carried = λ none. carried_none g.P.Port.sends g.P.Port.receives c.args.port.now c.args.seat.now.calls;
  counts = λ none. none;
  same = refl;
  uncounted = λ _. refl;
  stops = refl;
}

pub returns-in-Err-clause-ended : goal.returns-in-Err-clause-ended
returns-in-Err-clause-ended g c = λ none.
    let b = c.loop-number.number in
    let part : Bool → Type 0 = λ t. Gains (IsPartTo c.args.turn.now.number c.args.turn.now.me c.new-to.result.number t) c.loop-number.seat.calls c.send_to.new.seat.calls in
    let at : ℕ → Type 0 = λ n. Gains (IsPartTo c.args.turn.now.number c.args.turn.now.me n (set.contains c.args.heard.now n)) c.loop-number.seat.calls c.send_to.new.seat.calls in
    sent_part c.args.turn.now.number c.args.turn.now.me c.args.heard.now c.args.turn.now.nodes b c.args.seat.now.calls c.loop-number.seat.calls c.send_to.new.seat.calls
    (c.loop-number.invariant.sent (c.in-Err.ensures.counts none)) c.if-number-turn.true c.loop-number-test.true c.requires
    (subst at c.new-to.ensures (subst part c.contains.ensures (c.in-Err.ensures.ended none)))

pub returns-in-Err-clause-carried : goal.returns-in-Err-clause-carried
returns-in-Err-clause-carried g c = λ none not_fault.
    carried_more g.P.Port.sends g.P.Port.receives c.args.port.now c.loop-number.port c.send_to.new.port c.args.seat.now.calls c.loop-number.seat.calls c.send_to.new.seat.calls
    (c.loop-number.invariant.carried (c.in-Err.ensures.counts none)) (c.in-Err.ensures.carried none not_fault)

pub loop-number-preserved : goal.loop-number-preserved
loop-number-preserved g c =
    elim c.if-number-turn.branch [
      | then-number-turn+in-Ok w ↦
          let whole : Bool → Type 0 = λ t. Gains (SendsTo c.args.turn.now.number c.args.turn.now.me w.new-to.result.number t) c.loop-number.seat.calls w.send_to.new.seat.calls in
          let at : ℕ → Type 0 = λ n. Gains (SendsTo c.args.turn.now.number c.args.turn.now.me n (set.contains c.args.heard.now n)) c.loop-number.seat.calls w.send_to.new.seat.calls in
          rw (w.seat-is, w.port-is, w.refused-is) (record {
            sent = λ none.
                sent_more c.args.turn.now.number c.args.turn.now.me c.args.heard.now c.loop-number.number c.args.seat.now.calls c.loop-number.seat.calls w.send_to.new.seat.calls
                (c.loop-number.invariant.sent (w.in-Ok.ensures.counts none)) w.if-number-turn.true
                (subst at w.new-to.ensures (subst whole w.contains.ensures (w.in-Ok.ensures.sent none)));
            carried = λ none.
                carried_more g.P.Port.sends g.P.Port.receives c.args.port.now c.loop-number.port w.send_to.new.port c.args.seat.now.calls c.loop-number.seat.calls w.send_to.new.seat.calls
                (c.loop-number.invariant.carried (w.in-Ok.ensures.counts none)) (w.in-Ok.ensures.carried none (ok_is_no_fault w.in-Ok.field-0));
            counts = λ none. c.loop-number.invariant.counts (w.in-Ok.ensures.counts none);
            same = w.in-Ok.ensures.number ∙ c.loop-number.invariant.same;
            uncounted = λ sure. w.in-Ok.ensures.uncounted sure ∙ c.loop-number.invariant.uncounted sure;
            stops = w.in-Ok.ensures.stops ∙ c.loop-number.invariant.stops;
          })
      | else-number-turn w ↦
          rw (w.seat-is, w.port-is, w.refused-is) (record {
            sent = λ none. sent_skip c.args.turn.now.number c.args.turn.now.me c.args.heard.now c.loop-number.number c.args.seat.now.calls c.loop-number.seat.calls (c.loop-number.invariant.sent none) w.if-number-turn.false;
            carried = λ none. c.loop-number.invariant.carried none;
            counts = λ none. c.loop-number.invariant.counts none;
            same = c.loop-number.invariant.same;
            uncounted = c.loop-number.invariant.uncounted;
            stops = c.loop-number.invariant.stops;
          })
    ]
