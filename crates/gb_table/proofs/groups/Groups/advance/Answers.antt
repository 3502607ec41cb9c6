use Rattle.gb_types.specs.Common.{◌≡◌, ◌<◌, ◌≤◌, ◌+◌, ◌-◌, List, [], ℕ, length, get_or, drop, Some, None, ap, sym, refl, ◌∙◌, arith, Option, IsSome, length-set, get_or_default}
use Rattle.gb_table.specs.SlotsValue.{row_at, counters, no_row}
use Rattle.gb_frame.specs.declared.item.Item.{Item}
use Rattle.gb_table.specs.Packing.{Visit, first_entry, item_of, took, queues, walk, first_place, new_cursor, room_after}
use Rattle.gb_slot.specs.Common.{slot_took}
use Rattle.gb_table.proofs.StepLemmas.{named_set}
use Rattle.gb_table.proofs.WalkLemmas.{nowhere, queues_at}
use Rattle.gb_table.proofs.TakingLemmas.{has_next, first_visit, gives_one, gave_step, gave-none, cursor_next, cursor_last, cursor_idle}
use Rattle.gb_table.proofs.WriteLemmas.{wrote_none, wrote_more, item_here, sum-more, sum-fewer}
use Rattle.gb_table.proofs.groups.Groups.advance.Goals as goal

pub loop-step-init : goal.loop-step-init
loop-step-init c = record { rooms = refl; cursors = refl; named = c.requires.named; size = refl; within = c.requires.from; rows = sym (gave-none c.args.dest.number 0 c.args.self.now.rows); rest = refl; wrote = wrote_none c.args.version c.args.self.now.rows (walk c.args.from (queues c.args.dest.number c.args.self.now.rows)) _ _; capacity = omega arith; last = λ h. absurd (omega arith) }

-- the first place of the walk is that of the next visit
next_is : (r : Option ℕ) (here vs : List Visit) (k : ℕ) → r ≡ first_place here → here ≡ drop k vs → r ≡ first_place (drop k vs)
next_is r here vs k e h = e ∙ ap first_place h

some_is : (r : Option ℕ) (p : ℕ) → r ≡ Some p → IsSome r
some_is None p e = absurd (cc)
some_is (Some q) p e = refl

pub unwrap-place-requires : goal.unwrap-place-requires
unwrap-place-requires c =
    let vs = walk c.args.from (queues c.args.dest.number c.args.self.now.rows) in
    some_is c.next_place.result (get_or vs c.loop-step._step nowhere).place
    (next_is c.next_place.result (walk c.loop-step.at (queues c.args.dest.number c.loop-step.self.rows)) vs c.loop-step._step c.next_place.ensures.place c.loop-step.invariant.rest
    ∙ has_next c.loop-step._step vs (omega (arith, c.requires.there)))

pub give-requires-clause-place : goal.give-requires-clause-place
give-requires-clause-place c = (rw c.unwrap-place.ensures at c.next_place.ensures.within)

pub give-requires-clause-item : goal.give-requires-clause-item
give-requires-clause-item c =
    let dest = c.args.dest.number in
    let p = c.unwrap-place.result in
    let rows = c.loop-step.self.rows in
    let row = row_at rows p in
    let within : p < length rows = (rw c.unwrap-place.ensures at c.next_place.ensures.within) in
    let busy : 0 < length (get_or (queues dest rows) p []) = (rw c.unwrap-place.ensures at c.next_place.ensures.busy) in
    let here : row ≡ get_or rows p row = get_or_default rows p no_row row within in
    rw (queues_at dest rows p row within here) at busy

pub give-requires-clause-named : goal.give-requires-clause-named
give-requires-clause-named c = c.loop-step.invariant.named

pub give-requires-clause-room : goal.give-requires-clause-room
give-requires-clause-room c =
    let dest = c.args.dest.number in
    let k = c.loop-step._step in
    let p = c.unwrap-place.result in
    let rows = c.loop-step.self.rows in
    let row = row_at rows p in
    let vs = walk c.args.from (queues dest c.args.self.now.rows) in
    let within : p < length rows = (rw c.unwrap-place.ensures at c.next_place.ensures.within) in
    let busy : 0 < length (get_or (queues dest rows) p []) = (rw c.unwrap-place.ensures at c.next_place.ensures.busy) in
    let here : row ≡ get_or rows p row = get_or_default rows p no_row row within in
    let same : walk p (queues dest rows) ≡ walk c.loop-step.at (queues dest rows) = (rw c.unwrap-place.ensures at c.next_place.ensures.same) in
    let l : k < length vs = omega (arith, c.requires.there) in
    let first = first_visit dest rows p c.loop-step.at k row vs within here busy same c.loop-step.invariant.rest l in
    let bytes = ap (λ (i : Item). length i.payload) (item_here dest p k rows c.args.self.now.rows vs (first_entry dest row) c.loop-step.invariant.rows within first) in
    let sum = sum-more c.args.version k vs l in
    let fewer = sum-fewer c.args.version (k + 1) c.args.count vs (omega arith) in
    let size = c.loop-step.invariant.wrote.size in
    let more = c.loop-step.invariant.capacity in
    omega (arith, c.requires.capacity)

pub loop-step-preserved : goal.loop-step-preserved
loop-step-preserved c =
    let dest = c.args.dest.number in
    let k = c.loop-step._step in
    let p = c.unwrap-place.result in
    let rows = c.loop-step.self.rows in
    let row = row_at rows p in
    let vs = walk c.args.from (queues dest c.args.self.now.rows) in
    let within : p < length rows = (rw c.unwrap-place.ensures at c.next_place.ensures.within) in
    let busy : 0 < length (get_or (queues dest rows) p []) = (rw c.unwrap-place.ensures at c.next_place.ensures.busy) in
    let same : walk p (queues dest rows) ≡ walk c.loop-step.at (queues dest rows) = (rw c.unwrap-place.ensures at c.next_place.ensures.same) in
    let d : dest < counters row = let n = c.next_place.ensures.counters.each p in let b = c.args.dest.below in omega arith in
    let here : row ≡ get_or rows p row = get_or_default rows p no_row row within in
    let l : k < length vs = omega (arith, c.requires.there) in
    let item = item_here dest p k rows c.args.self.now.rows vs (first_entry dest row) c.loop-step.invariant.rows within (first_visit dest rows p c.loop-step.at k row vs within here busy same c.loop-step.invariant.rest l) in
    let one = gives_one dest rows p c.loop-step.at k row vs d within here busy same c.loop-step.invariant.rest l in
    let e : k + 1 - 1 ≡ k = omega arith in
    rw (c.give.ensures.rows, e) (record {
      rooms = c.give.ensures.rooms ∙ c.loop-step.invariant.rooms;
      cursors = c.give.ensures.cursors ∙ c.loop-step.invariant.cursors;
      size = length-set rows p (took dest 1 row) ∙ c.loop-step.invariant.size;
      named = named_set c.args.version rows p (slot_took dest 1) c.loop-step.invariant.named;
      within = rw length-set (omega arith);
      rows = gave_step dest p k rows c.args.self.now.rows row vs c.loop-step.invariant.rows within here l one.place;
      rest = one.rest;
      wrote = wrote_more c.args.version c.args.self.now.rows vs _ _ k _ _ (item_of row (first_entry dest row)) _ _ l c.loop-step.invariant.wrote item c.give.ensures.fits (omega (arith, c.give.ensures.len)) c.give.ensures.written;
      capacity = let more = c.give.ensures.capacity in omega (arith, c.loop-step.invariant.capacity);
      last = λ _. omega (arith, one.place);
    })

pub returns-in-Some-clause-cursor : goal.returns-in-Some-clause-cursor
returns-in-Some-clause-cursor c =
    let vs = walk c.args.from (queues c.args.dest.number c.args.self.now.rows) in
    let n = length c.args.self.now.rows in
    let e : c.loop-step._step ≡ c.args.count = omega arith in
    cursor_next n c.args.from c.loop-step._step c.in-Some.place vs (sym c.in-Some.is ∙ next_is c.next_place-2.result (walk c.loop-step.at (queues c.args.dest.number c.loop-step.self.rows)) vs c.loop-step._step c.next_place-2.ensures.place c.loop-step.invariant.rest)
    ∙ ap (λ k. new_cursor n c.args.from k vs) e

pub returns-else-count-eq0-clause-cursor : goal.returns-else-count-eq0-clause-cursor
returns-else-count-eq0-clause-cursor c =
    let vs = walk c.args.from (queues c.args.dest.number c.args.self.now.rows) in
    let n = length c.args.self.now.rows in
    let e : c.loop-step._step ≡ c.args.count = omega arith in
    let size : c.len.result ≡ n = c.len.ensures ∙ c.loop-step.invariant.size in
    c.room_after.ensures ∙ (ap (λ m. room_after m (c.loop-step.at - 1)) size
    ∙ sym (ap (λ k. new_cursor n c.args.from k vs) (sym e)
    ∙ cursor_last n c.args.from c.loop-step._step c.loop-step.at vs (sym c.in-None.is ∙ next_is c.next_place-2.result (walk c.loop-step.at (queues c.args.dest.number c.loop-step.self.rows)) vs c.loop-step._step c.next_place-2.ensures.place c.loop-step.invariant.rest) (omega (arith, c.requires.there)) (omega arith) c.loop-step.invariant.last))

pub returns-then-count-eq0-clause-cursor : goal.returns-then-count-eq0-clause-cursor
returns-then-count-eq0-clause-cursor c =
    let vs = walk c.args.from (queues c.args.dest.number c.args.self.now.rows) in
    let n = length c.args.self.now.rows in
    let e : c.loop-step._step ≡ 0 = omega arith in
    let z : 0 ≡ c.args.count = omega arith in
    cursor_idle n c.args.from vs (sym c.in-None.is ∙ next_is c.next_place-2.result (walk c.loop-step.at (queues c.args.dest.number c.loop-step.self.rows)) vs c.loop-step._step c.next_place-2.ensures.place c.loop-step.invariant.rest ∙ ap (λ k. first_place (drop k vs)) e)
    ∙ ap (λ k. new_cursor n c.args.from k vs) z

-- all items were given
same_count : {k n : ℕ} → k ≤ n → n ≤ k → k ≡ n
same_count most least = omega arith

pub returns-in-Some-clause-rows : goal.returns-in-Some-clause-rows
returns-in-Some-clause-rows c = rw (← same_count c.loop-step.auto._step-end c.loop-step-test.false) c.loop-step.invariant.rows

pub returns-in-Some-clause-written : goal.returns-in-Some-clause-written
returns-in-Some-clause-written c = rw (← same_count c.loop-step.auto._step-end c.loop-step-test.false) c.loop-step.invariant.wrote.written

pub returns-in-Some-clause-fit : goal.returns-in-Some-clause-fit
returns-in-Some-clause-fit c = rw (← same_count c.loop-step.auto._step-end c.loop-step-test.false) c.loop-step.invariant.wrote.fit

pub returns-in-Some-clause-len : goal.returns-in-Some-clause-len
returns-in-Some-clause-len c = rw (← same_count c.loop-step.auto._step-end c.loop-step-test.false) c.loop-step.invariant.wrote.size

pub returns-in-Some-clause-capacity : goal.returns-in-Some-clause-capacity
returns-in-Some-clause-capacity c = c.loop-step.invariant.capacity

pub returns-then-count-eq0-clause-rows : goal.returns-then-count-eq0-clause-rows
returns-then-count-eq0-clause-rows c = rw (← same_count c.loop-step.auto._step-end c.loop-step-test.false) c.loop-step.invariant.rows

pub returns-then-count-eq0-clause-written : goal.returns-then-count-eq0-clause-written
returns-then-count-eq0-clause-written c = rw (← same_count c.loop-step.auto._step-end c.loop-step-test.false) c.loop-step.invariant.wrote.written

pub returns-then-count-eq0-clause-fit : goal.returns-then-count-eq0-clause-fit
returns-then-count-eq0-clause-fit c = rw (← same_count c.loop-step.auto._step-end c.loop-step-test.false) c.loop-step.invariant.wrote.fit

pub returns-then-count-eq0-clause-len : goal.returns-then-count-eq0-clause-len
returns-then-count-eq0-clause-len c = rw (← same_count c.loop-step.auto._step-end c.loop-step-test.false) c.loop-step.invariant.wrote.size

pub returns-then-count-eq0-clause-capacity : goal.returns-then-count-eq0-clause-capacity
returns-then-count-eq0-clause-capacity c = c.loop-step.invariant.capacity

pub returns-else-count-eq0-clause-rows : goal.returns-else-count-eq0-clause-rows
returns-else-count-eq0-clause-rows c = rw (← same_count c.loop-step.auto._step-end c.loop-step-test.false) c.loop-step.invariant.rows

pub returns-else-count-eq0-clause-written : goal.returns-else-count-eq0-clause-written
returns-else-count-eq0-clause-written c = rw (← same_count c.loop-step.auto._step-end c.loop-step-test.false) c.loop-step.invariant.wrote.written

pub returns-else-count-eq0-clause-fit : goal.returns-else-count-eq0-clause-fit
returns-else-count-eq0-clause-fit c = rw (← same_count c.loop-step.auto._step-end c.loop-step-test.false) c.loop-step.invariant.wrote.fit

pub returns-else-count-eq0-clause-len : goal.returns-else-count-eq0-clause-len
returns-else-count-eq0-clause-len c = rw (← same_count c.loop-step.auto._step-end c.loop-step-test.false) c.loop-step.invariant.wrote.size

pub returns-else-count-eq0-clause-capacity : goal.returns-else-count-eq0-clause-capacity
returns-else-count-eq0-clause-capacity c = c.loop-step.invariant.capacity
