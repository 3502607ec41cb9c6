use Rattle.gb_types.specs.Common.{◌≡◌, List, [], ◌∷◌, ◌++◌, ◌∙◌, ap, sym, take, arith, map}
use Rattle.gb_types.specs.declared.{entry.Entry.Entry, reply.Reply.Reply}
use Rattle.gb_alone.specs.Observation.{SeenAt, numbers_below}
use Rattle.gb_alone.proofs.ObservationLemmas.{map_more, map_none}
use Rattle.gb_alone.proofs.alone.seen_of.Goals as goal

pub loop-b-init : goal.loop-b-init
loop-b-init c = λ m h. c.new-carried.ensures.items ∙ sym (map_none (λ b. take (m.taken b) (m.put b)))

pub loop-b-preserved : goal.loop-b-preserved
loop-b-preserved c = λ m h.
    let more = map_more (λ b. take (m.taken b) (m.put b)) c.loop-b.b in
    let now = c.in_ok-carried.ensures m h in
    let was = c.loop-b.invariant m h in
    c.in_ok-push.ensures.items
    ∙ (ap (λ (xs : List (List Entry)). xs ++ c.in_ok-carried.field-0 ∷ []) was
    ∙ (ap (λ (x : List Entry). map (λ b. take (m.taken b) (m.put b)) (numbers_below c.loop-b.b) ++ x ∷ []) now ∙ sym more))

pub returns : goal.returns
returns c = λ m h.
    let was = c.loop-b.invariant m h in
    let all : c.loop-b.b ≡ c.args.nodes = omega arith in
    let there = was ∙ ap (λ k. map (λ b. take (m.taken b) (m.put b)) (numbers_below k)) all in
    c.new.ensures
    ∙ (ap (λ (rs : List Reply). let s : SeenAt = record { replies = rs; carried = c.loop-b.carried.items } in s) (c.in_ok-replies.ensures ∙ h.replies)
    ∙ ap (λ (cs : List (List Entry)). let s : SeenAt = record { replies = m.replies; carried = cs } in s) there)
