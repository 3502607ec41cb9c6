use Rattle.gb_types.specs.Common.{◌≡◌, ◌<◌, List, [], ◌∷◌, ◌++◌, length, ◌∙◌, ap, sym, subst, take, arith, map, get_or_default}
use Rattle.gb_types.specs.declared.limits.TheConstants.{NODES}
use Rattle.gb_alone.specs.MemberLists.{MemberValue, new_member, StandsForMember}
use Rattle.gb_alone.specs.Observation.{SeenAt, numbers_below, seen_at}
use Rattle.gb_alone.proofs.ObservationLemmas.{map_more, map_none}
use Rattle.gb_alone.proofs.alone.all_seen.Goals as goal

pub loop-a-init : goal.loop-a-init
loop-a-init c = λ g h. c.new-seen.ensures.items ∙ sym (map_none (seen_at c.args.nodes (λ a. (g a).replies) (λ a b. take ((g a).taken b) ((g a).put b))))

pub loop-a-preserved : goal.loop-a-preserved
loop-a-preserved c = λ g h.
    let a = c.loop-a.a in
    let lt : a < NODES = omega (arith, c.requires.few) in
    let within : a < length c.args.group.now = omega (arith, lt, h.size) in
    let P : MemberValue → Type 0 = λ v. StandsForMember v (g a) in
    let here = subst P (sym (c.index-group-a.is ∙ get_or_default c.args.group.now a c.index-group-a.result new_member within)) (h.members a lt) in
    let more = map_more (seen_at c.args.nodes (λ x. (g x).replies) (λ x b. take ((g x).taken b) ((g x).put b))) a in
    let now = c.in_ok-seen_of.ensures (g a) here in
    let was = c.loop-a.invariant g h in
    c.in_ok-push.ensures.items
    ∙ (ap (λ (xs : List SeenAt). xs ++ c.in_ok-seen_of.field-0 ∷ []) was
    ∙ (ap (λ (x : SeenAt). map (seen_at c.args.nodes (λ x. (g x).replies) (λ x b. take ((g x).taken b) ((g x).put b))) (numbers_below a) ++ x ∷ []) now ∙ sym more))

pub returns : goal.returns
returns c = λ g h.
    let all : c.loop-a.a ≡ c.args.nodes = omega arith in
    c.from.ensures ∙ (c.loop-a.invariant g h ∙ ap (λ k. map (seen_at c.args.nodes (λ x. (g x).replies) (λ x b. take ((g x).taken b) ((g x).put b))) (numbers_below k)) all)
