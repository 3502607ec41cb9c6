use Rattle.gb_types.specs.Common.{◌≡◌}
use Rattle.gb_port.proofs.udp.UdpPort.read_rest.Given as goal

abbrev pub invariant-loop : goal.invariant-loop
invariant-loop l = l.self ≡ l.initial.self
