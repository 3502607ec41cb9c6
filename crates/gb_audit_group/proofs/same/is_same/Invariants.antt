use Rattle.gb_types.specs.Common.{◌≡◌, ◌↔◌, drop}
use Rattle.gb_audit_group.proofs.same.is_same.Given as goal

abbrev pub invariant-loop-a : goal.invariant-loop-a
invariant-loop-a l = (l.nodes ≡ l.others) ↔ (drop l.a l.nodes ≡ drop l.a l.others)
