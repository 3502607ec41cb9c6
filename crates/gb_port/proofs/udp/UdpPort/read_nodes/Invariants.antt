use Rattle.gb_types.specs.Common.{◌≡◌}
use Rattle.gb_port.proofs.udp.UdpPort.read_nodes.Given as goal

abbrev pub invariant-loop-step : goal.invariant-loop-step
invariant-loop-step l = l.self ≡ l.initial.self
