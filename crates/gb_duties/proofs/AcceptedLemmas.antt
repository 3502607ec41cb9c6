-- The messages that a node has said are exactly those that were accepted there.
use Rattle.gb_types.specs.Common.{◌≡◌, ℕ, ◌-◌, Bool, true, false, nat_eq, ◌||◌, List, [], ◌∷◌, ◌++◌, Option, Some, None, refl, sym, subst, slice_get, if◌then◌else◌, AllByRecursion, eqb-true, same, version_at}
use Rattle.gb_types.specs.declared.{entry.Entry.Entry, message.MsgId.MsgId, node.NodeId.NodeId, plan.Bounds.Bounds, reply.Reply.Reply, reply.Reply.TheVariants.Done, reply.Reply.TheVariants.Said, spec.Spec.Spec, version.Version.Version, address.Addr.Addr}
use Rattle.gb_types.proofs.{SameLemmas.same_number, SameLemmas.same_itself, BoolLemmas.or_first}
use Rattle.gb_layer.specs.Common.{all_weaker, all_append, was_said, numbered}
use Rattle.gb_rules.specs.Common.{is_other, is_too_long, calls_of}
use Rattle.gb_rules.specs.declared.{call.GroupCall.GroupCall, call.GroupCall.TheVariants.Other, call.GroupCall.TheVariants.Crashed}
use Rattle.gb_alone.specs.Common.{Member, Group, held_spec, reply_to, called, did, falls, taken_in, cut, took_notice, member_after, after, nobody, alone_from, alone, Accepted, accepted_in, accepted_at, accepted_from, accepted}
use Rattle.gb_alone.specs.declared.{event.GroupEvent.GroupEvent, event.GroupStep.GroupStep}
use Rattle.gb_alone.specs.declared.event.GroupEvent.TheVariants.{Tenant, Make as AskMake, Open as AskOpen, Shut as AskShut, Drop as AskDrop, Say as AskSay, OtherMade, OtherDropped, Took, Came, Done as Acknowledged, Notice, Stop}
use Rattle.gb_duties.proofs.InvariantLemmas.{Later}
use Rattle.gb_duties.proofs.StepLemmas.{calls_in, AllFit, step_fits, nobody_fits}

-- What was accepted was said.

-- an accepted message was said by the node
abbrev IsSaidBy : NodeId → List GroupCall → Accepted → Type 0
IsSaidBy s told x = was_said (calls_of told) (numbered s x.seq) ≡ true

did_said : (me : NodeId) (event : GroupEvent) (reply : Reply) (m : Member) → AllByRecursion (IsSaidBy me (did me event reply m).told) (accepted_in event reply)
unfolding calls_of
did_said me (AskMake spec) Done m = tt
did_said me AskOpen Done m = tt
did_said me AskShut Done m = tt
did_said me AskDrop Done m = tt
did_said me (AskSay message) (Said seq) m = (or_first (same (numbered me seq) (numbered me seq)) (was_said (calls_of m.told) (numbered me seq)) (same_itself (numbered me seq)), tt)
did_said me event reply m = tt

event_said : (bounds : Bounds) (addr : Addr) (me : NodeId) (event : GroupEvent) (group : Group) → AllByRecursion (IsSaidBy me (member_after bounds addr me event group).told) (accepted_in event (reply_to bounds addr me.number event (group me.number)))
event_said bounds addr me (Tenant reserve) group = tt
event_said bounds addr me (OtherMade generation) group = tt
event_said bounds addr me OtherDropped group = tt
event_said bounds addr me (Took b count) group = tt
event_said bounds addr me (Came from place) group = tt
event_said bounds addr me (Acknowledged b place count) group = tt
event_said bounds addr me (Notice q) group = tt
event_said bounds addr me Stop group = tt
event_said bounds addr me event group = did_said me event (reply_to bounds addr me.number event (group me.number)) (group me.number)

step_said : (bounds : Bounds) (addr : Addr) (group : Group) (step : GroupStep) (s : NodeId) → AllByRecursion (IsSaidBy s (after bounds addr group step s.number).told) (accepted_at bounds addr group step s.number)
unfolding after
step_said bounds addr group step s = go (nat_eq s.number step.node.number) refl
  where
    go : (t : Bool) → nat_eq s.number step.node.number ≡ t
        → AllByRecursion (IsSaidBy s (if t then member_after bounds addr step.node step.event group else group s.number).told) (if t then accepted_in step.event (reply_to bounds addr s.number step.event (group s.number)) else [])
    go true is =
        subst (λ (y : NodeId). AllByRecursion (IsSaidBy y (member_after bounds addr step.node step.event group).told) (accepted_in step.event (reply_to bounds addr y.number step.event (group y.number))))
        (sym (same_number s step.node (eqb-true s.number step.node.number is))) (event_said bounds addr step.node step.event group)
    go false is = tt

run_later : (bounds : Bounds) (addr : Addr) (steps : List GroupStep) (group : Group) → AllFit group → Later (calls_in group) (calls_in (alone_from bounds addr group steps))
run_later bounds addr [] group fits = record { mentioned = λ a m h. h; said = λ a m h. h }
run_later bounds addr (step ∷ steps) group fits =
    let one = step_fits bounds addr group step fits in
    let rest = run_later bounds addr steps (after bounds addr group step) one.0 in
    record { mentioned = λ a m h. rest.mentioned a m (one.1.mentioned a m h); said = λ a m h. rest.said a m (one.1.said a m h) }

run_said : (bounds : Bounds) (addr : Addr) (s : NodeId) (steps : List GroupStep) (group : Group) → AllFit group → AllByRecursion (IsSaidBy s (alone_from bounds addr group steps s.number).told) (accepted_from bounds addr group steps s.number)
unfolding accepted_from
run_said bounds addr s [] group fits = tt
run_said bounds addr s (step ∷ steps) group fits =
    let next = after bounds addr group step in
    let end = alone_from bounds addr next steps in
    let fit = (step_fits bounds addr group step fits).0 in
    let later = run_later bounds addr steps next fit in
    all_append (IsSaidBy s (end s.number).told) (accepted_at bounds addr group step s.number) (accepted_from bounds addr next steps s.number)
    (all_weaker (IsSaidBy s (next s.number).told) (IsSaidBy s (end s.number).told) (λ x h. later.said s.number (numbered s x.seq) h) (accepted_at bounds addr group step s.number) (step_said bounds addr group step s))
    (run_said bounds addr s steps next fit)

-- each accepted message was said
pub accepted_said : (bounds : Bounds) (addr : Addr) (s : NodeId) (steps : List GroupStep) → AllByRecursion (λ (x : Accepted). was_said (calls_in (alone bounds addr steps) s.number) (numbered s x.seq) ≡ true) (accepted bounds addr steps s.number)
accepted_said bounds addr s steps = run_said bounds addr s steps nobody nobody_fits

-- Where nothing was accepted nothing was said.

did_silent : (me : NodeId) (event : GroupEvent) (reply : Reply) (m : Member) → accepted_in event reply ≡ [] → (x : MsgId) → was_said (calls_of (did me event reply m).told) x ≡ true → was_said (calls_of m.told) x ≡ true
did_silent me (AskMake spec) Done m none x h = h
did_silent me AskOpen Done m none x h = h
did_silent me AskShut Done m none x h = h
did_silent me AskDrop Done m none x h = h
did_silent me (AskSay message) (Said seq) m none x h = absurd (cc)
did_silent me event reply m none x h = h

taken_silent : (version : Version) (a : ℕ) (from : NodeId) (place : ℕ) (o : Option Entry) (m : Member) (x : MsgId) → was_said (calls_of (taken_in version a from place o m).told) x ≡ true → was_said (calls_of m.told) x ≡ true
unfolding calls_of
taken_silent version a from place None m x h = h
taken_silent version a from place (Some y) m x h = go (is_too_long version y.payload || falls a from.number y m.told (held_spec m.phase m.spec)) h
  where
    go : (t : Bool) → was_said (calls_of (if t then m else called a (Other from y) m).told) x ≡ true → was_said (calls_of m.told) x ≡ true
    go true h = h
    go false h = h

notice_silent : (a : ℕ) (q : NodeId) (o : Option Spec) (m : Member) (x : MsgId) → was_said (calls_of (took_notice a q o m).told) x ≡ true → was_said (calls_of m.told) x ≡ true
unfolding calls_of
notice_silent a q None m x h = h
notice_silent a q (Some spec) m x h = go (is_other spec a q.number) h
  where
    go : (t : Bool) → was_said (calls_of (if t then called a (Crashed q) (cut q m) else m).told) x ≡ true → was_said (calls_of m.told) x ≡ true
    go true h = h
    go false h = h

event_silent : (bounds : Bounds) (addr : Addr) (me : NodeId) (event : GroupEvent) (group : Group) → accepted_in event (reply_to bounds addr me.number event (group me.number)) ≡ [] → (x : MsgId)
    → was_said (calls_of (member_after bounds addr me event group).told) x ≡ true → was_said (calls_of (group me.number).told) x ≡ true
event_silent bounds addr me (Tenant reserve) group none x h = h
event_silent bounds addr me (OtherMade generation) group none x h = h
event_silent bounds addr me OtherDropped group none x h = h
event_silent bounds addr me (Took b count) group none x h = h
event_silent bounds addr me (Came from place) group none x h = taken_silent (version_at bounds.versions me.number) me.number from place (slice_get ((group from.number).put me.number) (place - 1)) (group me.number) x h
event_silent bounds addr me (Acknowledged b place count) group none x h = h
event_silent bounds addr me (Notice q) group none x h = notice_silent me.number q (held_spec (group me.number).phase (group me.number).spec) (group me.number) x h
event_silent bounds addr me Stop group none x h = h
event_silent bounds addr me event group none x h = did_silent me event (reply_to bounds addr me.number event (group me.number)) (group me.number) none x h

step_silent : (bounds : Bounds) (addr : Addr) (group : Group) (step : GroupStep) → ((s : ℕ) → accepted_at bounds addr group step s ≡ []) → (a : ℕ) (x : MsgId) → was_said (calls_in (after bounds addr group step) a) x ≡ true → was_said (calls_in group a) x ≡ true
unfolding after
step_silent bounds addr group step none a x h = go (nat_eq a step.node.number) refl (none a) h
  where
    go : (t : Bool) → nat_eq a step.node.number ≡ t → (if t then accepted_in step.event (reply_to bounds addr a step.event (group a)) else []) ≡ []
        → was_said (calls_of (if t then member_after bounds addr step.node step.event group else group a).told) x ≡ true → was_said (calls_of (group a).told) x ≡ true
    go true is none h =
        let same_node = eqb-true a step.node.number is in
        subst (λ y. was_said (calls_of (group y).told) x ≡ true) (sym same_node)
        (event_silent bounds addr step.node step.event group (subst (λ y. accepted_in step.event (reply_to bounds addr y step.event (group y)) ≡ []) same_node none) x h)
    go false is none h = h

none_first : (xs ys : List Accepted) → xs ++ ys ≡ [] → (xs ≡ []) × (ys ≡ [])
none_first [] ys h = (refl, h)
none_first (x ∷ xs) ys h = absurd (cc)

run_silent : (bounds : Bounds) (addr : Addr) (steps : List GroupStep) (group : Group) → ((s : ℕ) → accepted_from bounds addr group steps s ≡ []) → (a : ℕ) (x : MsgId) → was_said (calls_in (alone_from bounds addr group steps) a) x ≡ true → was_said (calls_in group a) x ≡ true
unfolding accepted_from
run_silent bounds addr [] group none a x h = h
run_silent bounds addr (step ∷ steps) group none a x h =
    let parts : (s : ℕ) → (accepted_at bounds addr group step s ≡ []) × (accepted_from bounds addr (after bounds addr group step) steps s ≡ []) =
    λ s. none_first (accepted_at bounds addr group step s) (accepted_from bounds addr (after bounds addr group step) steps s) (none s) in
    step_silent bounds addr group step (λ s. (parts s).0) a x (run_silent bounds addr steps (after bounds addr group step) (λ s. (parts s).1) a x h)

pub none_said : (bounds : Bounds) (addr : Addr) (steps : List GroupStep) → ((s : ℕ) → accepted bounds addr steps s ≡ []) → (a : ℕ) (x : MsgId) → was_said (calls_in (alone bounds addr steps) a) x ≡ true → ⊥
unfolding calls_of
none_said bounds addr steps none a x h = let e : was_said (calls_of []) x ≡ true = run_silent bounds addr steps nobody none a x h in absurd (cc)
