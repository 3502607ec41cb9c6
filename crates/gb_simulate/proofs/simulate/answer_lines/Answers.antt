use Rattle.gb_types.specs.Common.{Ok, ap}
use Rattle.gb_simulate.proofs.ProgressLemmas.{at_on, at_handed, at_end, fault_over, cut_over}
use Rattle.gb_simulate.proofs.simulate.answer_lines.Goals as goal

pub loop-run-preserved : goal.loop-run-preserved
loop-run-preserved g c = record {
  at = λ input before start. rw c.in_ok-end.ensures.number (at_on input before _ _ _ _ _ _ _ _ (at_handed input before _ _ _ _ _ _ _ (c.loop-run.invariant.at input before start) c.in_ok-hand_over_in_time.ensures.ok) (c.in_ok-end.ensures.goes_on (ap Ok c.in_default.is)));
  few = rw c.in_ok-end.ensures.size c.loop-run.invariant.few;
}

pub returns-in-Some : goal.returns-in-Some
returns-in-Some g c = λ input before start.
    at_end input before _ _ _ _ _ _ _ _ (at_handed input before _ _ _ _ _ _ _ (c.loop-run.invariant.at input before start) c.in_ok-hand_over_in_time.ensures.ok) (rw c.in-Some.is at c.in_ok-end.ensures.stops)

pub returns-in_err-end : goal.returns-in_err-end
returns-in_err-end g c = λ input before start.
    fault_over c.from_residual-in_err-end.result c.in_err-end.field-0.0 input before _ _ _ _ _ _ _ c.from_residual-in_err-end.ensures.1
    (at_handed input before _ _ _ _ _ _ _ (c.loop-run.invariant.at input before start) c.in_ok-hand_over_in_time.ensures.ok) c.in_err-end.ensures.stops

pub returns-in_err-hand_over_in_time : goal.returns-in_err-hand_over_in_time
returns-in_err-hand_over_in_time g c = λ input before start.
    cut_over c.from_residual.result c.in_err-hand_over_in_time.field-0.0 input before _ _ _ _ _ _ _ _ c.from_residual.ensures.1 (c.loop-run.invariant.at input before start) c.in_err-hand_over_in_time.ensures.fault
