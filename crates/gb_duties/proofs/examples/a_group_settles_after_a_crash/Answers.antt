use Rattle.gb_duties.proofs.CrashLemmas.{crash_legal, crash_settled, crash_one, crash_two}
use Rattle.gb_duties.proofs.examples.a_group_settles_after_a_crash.Goals as goal

pub returns-clause-legal : goal.returns-clause-legal
returns-clause-legal c = crash_legal

pub returns-clause-settled : goal.returns-clause-settled
returns-clause-settled c = crash_settled

pub returns-clause-one : goal.returns-clause-one
returns-clause-one c = crash_one

pub returns-clause-two : goal.returns-clause-two
returns-clause-two c = crash_two
