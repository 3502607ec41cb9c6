use Rattle.gb_duties.proofs.PhaseLemmas.{relay_legal, relay_up, relay_phases, relay_before, relay_after}
use Rattle.gb_duties.proofs.examples.a_message_is_delivered_after_a_phase.Goals as goal

pub returns-clause-legal : goal.returns-clause-legal
returns-clause-legal c = relay_legal

pub returns-clause-up : goal.returns-clause-up
returns-clause-up c = relay_up

pub returns-clause-phase : goal.returns-clause-phase
returns-clause-phase c = relay_phases

pub returns-clause-before : goal.returns-clause-before
returns-clause-before c = relay_before

pub returns-clause-later : goal.returns-clause-later
returns-clause-later c = relay_after
