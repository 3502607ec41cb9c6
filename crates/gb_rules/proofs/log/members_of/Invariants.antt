use Rattle.gb_types.specs.Common.{◌≡◌, ◌++◌, rising}
use Rattle.gb_layer.specs.Common.{numbers}
use Rattle.gb_rules.proofs.log.members_of.Given as goal

abbrev pub invariant-loop-member : goal.invariant-loop-member
invariant-loop-member l = numbers l.members.items ++ l.member-iterator ≡ rising l.spec.members
