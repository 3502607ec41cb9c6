use Rattle.gb_types.specs.Common.{◌≡◌}
use Rattle.gb_server.proofs.server_log.ServerLog.tell_misfits_of.Given as goal

abbrev pub invariant-loop-number : goal.invariant-loop-number
invariant-loop-number g l = l.self.is_quiet ≡ l.initial.self.is_quiet
