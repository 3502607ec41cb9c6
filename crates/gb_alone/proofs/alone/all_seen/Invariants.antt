use Rattle.gb_types.specs.Common.{◌≡◌, take, map}
use Rattle.gb_alone.specs.Alone.{Group}
use Rattle.gb_alone.specs.MemberLists.{StandForMembers}
use Rattle.gb_alone.specs.Observation.{numbers_below, seen_at}
use Rattle.gb_alone.proofs.alone.all_seen.Given as goal

abbrev pub invariant-loop-a : goal.invariant-loop-a
invariant-loop-a l = (g : Group) → StandForMembers l.group g → l.seen.items ≡ map (seen_at l.nodes (λ a. (g a).replies) (λ a b. take ((g a).taken b) ((g a).put b))) (numbers_below l.a)
