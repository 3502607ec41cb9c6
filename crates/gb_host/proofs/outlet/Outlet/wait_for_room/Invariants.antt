use Rattle.gb_types.specs.Common.{◌≡◌}
use Rattle.gb_host.proofs.outlet.Outlet.wait_for_room.Given as goal

abbrev pub invariant-loop : goal.invariant-loop
invariant-loop g l = (l.self.node ≡ l.initial.self.node) × (l.self.before ≡ l.initial.self.before) × (l.self.entries ≡ l.initial.self.entries)
