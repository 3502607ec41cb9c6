use Rattle.gb_types.specs.Common.{◌≡◌, ◌++◌, List, length, take, refl, ap, subst, ◌∙◌, arith, sum_by, All, set}
use Rattle.gb_frame.specs.Common.{items_text, IsItem}
use Rattle.gb_table.specs.SlotsValue.{Row, HaveCounters, AreApart}
use Rattle.gb_table.specs.GroupsValue.{GroupsValue, cursor_for, walk_to}
use Rattle.gb_table.specs.Packing.{Visit, queues, walk, size, gave, new_cursor, items}
use Rattle.gb_table.proofs.BatchLemmas.{is_longest, places-kept, fit-front}
use Rattle.gb_table.proofs.FrontLemmas.{is_front}
use Rattle.gb_table.proofs.SteppedLemmas.{rows_in, cursor_now}
use Rattle.gb_table.proofs.TakingLemmas.{length-gave}
use Rattle.gb_table.proofs.groups.Groups.pack_into.Goals as goal

pub advance-next-requires-clause-from : goal.advance-next-requires-clause-from
advance-next-requires-clause-from c = let l = c.self.invariant.1.places.within c.index.result in let n = ap (λ (v : GroupsValue). length v.rows) c.self.view_is in omega arith

pub advance-next-requires-clause-there : goal.advance-next-requires-clause-there
advance-next-requires-clause-there c =
    let from_is = cursor_now c.self.inside c.args.self.now c.args.dest c.index.result c.self.view_is c.index.ensures.value in
    let same = ap (λ from. length (walk from (queues c.args.dest.number c.args.self.now.rows))) from_is in
    omega (arith, c.requires.count, (fit-front c.args.version c.args.room (walk_to c.args.dest.number c.args.self.now)).0)

pub advance-next-requires-clause-capacity : goal.advance-next-requires-clause-capacity
advance-next-requires-clause-capacity c =
    let from_is = cursor_now c.self.inside c.args.self.now c.args.dest c.index.result c.self.view_is c.index.ensures.value in
    let taken = ap (λ from. take c.args.count (walk from (queues c.args.dest.number c.args.self.now.rows))) from_is ∙ (ap (λ n. take n (walk_to c.args.dest.number c.args.self.now)) c.requires.count ∙ (fit-front c.args.version c.args.room (walk_to c.args.dest.number c.args.self.now)).1) in
    let sum = ap (λ (us : List Visit). sum_by (size c.args.version) us) taken in
    omega (arith, c.requires.capacity)

pub invariant_of-self : goal.invariant_of-self
invariant_of-self c =
    let rows = rows_in c.self-2.inside in
    let n : length rows ≡ length c.args.self.now.rows = ap (λ (v : GroupsValue). length v.rows) c.self-2.view_is ∙ (ap (λ (rs : List Row). length rs) c.advance-next.ensures.rows ∙ length-gave c.args.dest.number 0 _ c.args.self.now.rows) in (
      c.self-2.invariant.0,
      record {
        places = places-kept c.index-2.result c.advance-next.result c.self-2.inside.cursors rows rows c.self-2.invariant.1.places (let l = c.advance-next.ensures.within in omega arith) refl;
        index = c.self-2.invariant.1.index;
        members = c.self-2.invariant.1.members;
        covered = c.self-2.invariant.1.covered;
        in_rooms = c.self-2.invariant.1.in_rooms;
      },
    )

pub returns-clause-written : goal.returns-clause-written
returns-clause-written c =
    let from_is = cursor_now c.self.inside c.args.self.now c.args.dest c.index.result c.self.view_is c.index.ensures.value in
    let taken = ap (λ from. take c.args.count (walk from (queues c.args.dest.number c.args.self.now.rows))) from_is ∙ (ap (λ n. take n (walk_to c.args.dest.number c.args.self.now)) c.requires.count ∙ (fit-front c.args.version c.args.room (walk_to c.args.dest.number c.args.self.now)).1) in
    c.advance-next.ensures.written ∙ ap (λ (us : List Visit). c.args.out.now.items ++ items_text c.args.version (items c.args.self.now.rows us)) taken

pub returns-clause-fit : goal.returns-clause-fit
returns-clause-fit c =
    let from_is = cursor_now c.self.inside c.args.self.now c.args.dest c.index.result c.self.view_is c.index.ensures.value in
    let taken = ap (λ from. take c.args.count (walk from (queues c.args.dest.number c.args.self.now.rows))) from_is ∙ (ap (λ n. take n (walk_to c.args.dest.number c.args.self.now)) c.requires.count ∙ (fit-front c.args.version c.args.room (walk_to c.args.dest.number c.args.self.now)).1) in
    subst (λ (us : List Visit). All (IsItem c.args.version) (items c.args.self.now.rows us)) taken c.advance-next.ensures.fit

pub returns-clause-len : goal.returns-clause-len
returns-clause-len c =
    let from_is = cursor_now c.self.inside c.args.self.now c.args.dest c.index.result c.self.view_is c.index.ensures.value in
    let taken = ap (λ from. take c.args.count (walk from (queues c.args.dest.number c.args.self.now.rows))) from_is ∙ (ap (λ n. take n (walk_to c.args.dest.number c.args.self.now)) c.requires.count ∙ (fit-front c.args.version c.args.room (walk_to c.args.dest.number c.args.self.now)).1) in
    let sum = ap (λ (us : List Visit). sum_by (size c.args.version) us) taken in
    omega (arith, c.advance-next.ensures.len)

pub returns-clause-state : goal.returns-clause-state
returns-clause-state c =
    let from_is = cursor_now c.self.inside c.args.self.now c.args.dest c.index.result c.self.view_is c.index.ensures.value in
    let taken = ap (λ from. take c.args.count (walk from (queues c.args.dest.number c.args.self.now.rows))) from_is ∙ (ap (λ n. take n (walk_to c.args.dest.number c.args.self.now)) c.requires.count ∙ (fit-front c.args.version c.args.room (walk_to c.args.dest.number c.args.self.now)).1) in
    let dest = c.args.dest.number in
    let now = c.args.self.now in
    let n = length now.rows in
    let Q = queues dest now.rows in
    let rows = c.advance-next.ensures.rows ∙ ap (λ (us : List Visit). gave dest 0 us now.rows) taken in
    let next = c.advance-next.ensures.cursor ∙ (ap (λ from. new_cursor n from c.args.count (walk from Q)) from_is ∙ ap (λ k. new_cursor n (cursor_for dest now) k (walk_to dest now)) c.requires.count) in
    ap (λ (v : GroupsValue). record v { cursors = set v.cursors c.index-2.result c.advance-next.result }) c.self-2.view_is
    ∙ (λ i. record { rooms = c.advance-next.ensures.rooms i; rows = rows i; cursors = set (c.advance-next.ensures.cursors i) (c.index-2.ensures.value i) (next i) })

pub returns-clause-longest : goal.returns-clause-longest
returns-clause-longest c = is_longest c.args.version c.args.room (walk_to c.args.dest.number c.args.self.now)

pub returns-clause-own : goal.returns-clause-own
returns-clause-own c =
    is_front c.args.version c.args.dest.number c.args.room c.args.self.now c.args.dest.below (subst (λ (v : GroupsValue). AreApart v.rows) c.self.view_is c.self.invariant.0.apart) (subst (λ (v : GroupsValue). HaveCounters v.rows) c.self.view_is c.self.invariant.0.counters)
