use Rattle.gb_types.specs.Common.{◌≡◌}
use Rattle.gb_port.proofs.udp.UdpPort.open_own.Given as goal

abbrev pub invariant-loop-at : goal.invariant-loop-at
invariant-loop-at l = l.self ≡ l.initial.self
