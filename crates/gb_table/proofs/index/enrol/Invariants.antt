use Rattle.gb_table.specs.Members.{IsEnrolled}
use Rattle.gb_table.proofs.index.enrol.Given as goal

abbrev pub invariant-loop-index : goal.invariant-loop-index
invariant-loop-index l = IsEnrolled l.index l.place l.members l.fn.memberships l.memberships
