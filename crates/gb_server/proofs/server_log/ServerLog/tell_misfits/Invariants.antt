use Rattle.gb_types.specs.Common.{◌≡◌}
use Rattle.gb_server.proofs.server_log.ServerLog.tell_misfits.Given as goal

abbrev pub invariant-loop-place : goal.invariant-loop-place
invariant-loop-place g l = l.self.is_quiet ≡ l.initial.self.is_quiet
