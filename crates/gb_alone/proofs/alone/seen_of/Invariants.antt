use Rattle.gb_types.specs.Common.{◌≡◌, take, map}
use Rattle.gb_alone.specs.Alone.{Member}
use Rattle.gb_alone.specs.MemberLists.{StandsForMember}
use Rattle.gb_alone.specs.Observation.{numbers_below}
use Rattle.gb_alone.proofs.alone.seen_of.Given as goal

abbrev pub invariant-loop-b : goal.invariant-loop-b
invariant-loop-b l = (m : Member) → StandsForMember l.member m → l.carried.items ≡ map (λ b. take (m.taken b) (m.put b)) (numbers_below l.b)
