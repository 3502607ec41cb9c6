use Rattle.gb_types.specs.Common.{ℕ, ◌<◌, ◌≤◌, limits_of, version_at}
use Rattle.gb_audit_examples.proofs.stops.is_named.Given as goal

abbrev pub invariant-loop-number : goal.invariant-loop-number
invariant-loop-number l = (a : ℕ) → a < l.number → l.plan.nodes ≤ (limits_of (version_at l.plan.versions a)).nodes
