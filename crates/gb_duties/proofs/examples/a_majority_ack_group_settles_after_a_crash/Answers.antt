use Rattle.gb_duties.proofs.CrashLemmas.{majority_crash_legal, majority_crash_settled, two_are_enough, majority_crash_one, majority_crash_two}
use Rattle.gb_duties.proofs.examples.a_majority_ack_group_settles_after_a_crash.Goals as goal

pub returns-clause-legal : goal.returns-clause-legal
returns-clause-legal c = majority_crash_legal

pub returns-clause-settled : goal.returns-clause-settled
returns-clause-settled c = majority_crash_settled

pub returns-clause-enough : goal.returns-clause-enough
returns-clause-enough c = two_are_enough

pub returns-clause-one : goal.returns-clause-one
returns-clause-one c = majority_crash_one

pub returns-clause-two : goal.returns-clause-two
returns-clause-two c = majority_crash_two
