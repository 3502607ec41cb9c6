use Rattle.gb_types.specs.Common.{length}
use Rattle.gb_worker.proofs.sessions.+fn-sessions-join+arg3+sessions.Given as goal

abbrev pub decreases-sessions : goal.decreases-sessions
decreases-sessions g l = length l.seats.now

abbrev pub decreases-join+arg3 : goal.decreases-join+arg3
decreases-join+arg3 g l = length l.others.now
