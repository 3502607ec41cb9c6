use Rattle.gb_types.specs.Common.{Ok, ap}
use Rattle.gb_simulate.proofs.ProgressLemmas.{at_on, at_end, fault_over}
use Rattle.gb_simulate.proofs.simulate.answer_all.Goals as goal

pub loop-cluster-init : goal.loop-cluster-init
loop-cluster-init g c = rw c.requires (record { at = λ input before start. start; few = tt })

pub loop-cluster-preserved : goal.loop-cluster-preserved
loop-cluster-preserved g c = record {
  at = λ input before start. rw c.in_ok-end.ensures.number (at_on input before _ _ _ _ _ _ _ _ (rw c.in_default.is at (c.loop-cluster.invariant.at input before start)) (c.in_ok-end.ensures.goes_on (ap Ok c.in_default-2.is)));
  few = c.in_ok-end.ensures.few;
}

pub returns-in-Some-2 : goal.returns-in-Some-2
returns-in-Some-2 g c = λ input before start.
    at_end input before _ _ _ _ _ _ _ _ (rw c.in_default.is at (c.loop-cluster.invariant.at input before start)) (rw c.in-Some-2.is at c.in_ok-end.ensures.stops)

pub returns-in_err-end : goal.returns-in_err-end
returns-in_err-end g c = λ input before start.
    fault_over c.from_residual.result c.in_err-end.field-0.0 input before _ _ _ _ _ _ _ c.from_residual.ensures.1 (rw c.in_default.is at (c.loop-cluster.invariant.at input before start)) c.in_err-end.ensures.stops
