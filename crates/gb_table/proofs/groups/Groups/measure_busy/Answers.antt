use Rattle.gb_types.specs.Common.{◌≡◌, ◌+◌, [], List, ℕ, length, get_or, ap, refl, arith, limits_of}
use Rattle.gb_types.specs.declared.{entry.Entry.Entry, version.VersionLimits.VersionLimits}
use Rattle.gb_table.specs.SlotsValue.{Row, row_at, no_entry}
use Rattle.gb_table.specs.Packing.{queue, queues, fit, walk}
use Rattle.gb_table.specs.Ahead.{visits, ahead, IsActive, IsTurn}
use Rattle.gb_table.specs.PlaceSet.{IsSummary}
use Rattle.gb_table.proofs.AheadLemmas.{ahead-start, visits-first, visits-later, measured_start, measured_none}
use Rattle.gb_table.proofs.BusyLemmas.{turn_item, turn_taken, turn_stop, row_here, active_next, active_start}
use Rattle.gb_table.proofs.groups.Groups.measure_busy.Goals as goal
use Rattle.gb_table.proofs.groups.Groups.measure_busy.Goals.{then-place-from, else-place-from, then-waiting-nth, else-waiting-nth}

pub loop-round-init : goal.loop-round-init
loop-round-init g c =
    let rows = c.args.self.now.rows in
    let e = ahead-start c.args.from 0 (queues c.args.dest.number rows) in
    record {
      within = c.requires.from;
      begun = λ h. absurd (omega arith);
      laps = omega arith;
      index = active_start c.args.dest.number c.args.from c.args.active rows c.requires.index;
      few = omega arith;
      summary = c.requires.summary;
      same = rw e (measured_start c.args.version c.args.room (walk c.args.from (queues c.args.dest.number rows)));
    }

pub measure_at-payload-requires : goal.measure_at-payload-requires
measure_at-payload-requires g c =
    let dest = c.args.dest.number in
    let rows : List Row = c.args.self.now.rows in
    let from = c.args.from in
    let q = c.in-Some.place in
    let to = c.in-Some.round in
    let nth = c.if-place-from.nth in
    let t : IsTurn dest from c.loop-round.lap c.loop-round.at rows to q = c.in-Some.ensures.turn in
    let v : nth ≡ visits from to q q = elim c.if-place-from.branch [
      | then-place-from w ↦ visits-first from to q nth w.if-place-from.true w.nth-is
      | else-place-from w ↦ visits-later from to q nth w.if-place-from.false w.nth-is
    ] in
    (turn_item dest from c.loop-round.lap c.loop-round.at to q nth rows (row_at rows q) t v (row_here rows q t.within)).0

pub returns-then-left-bytes-clause-count : goal.returns-then-left-bytes-clause-count
returns-then-left-bytes-clause-count g c =
    let dest = c.args.dest.number in
    let rows : List Row = c.args.self.now.rows in
    let from = c.args.from in
    let q = c.in-Some.place in
    let to = c.in-Some.round in
    let nth = c.if-place-from.nth in
    let t : IsTurn dest from c.loop-round.lap c.loop-round.at rows to q = c.in-Some.ensures.turn in
    let v : nth ≡ visits from to q q = elim c.if-place-from.branch [
      | then-place-from w ↦ visits-first from to q nth w.if-place-from.true w.nth-is
      | else-place-from w ↦ visits-later from to q nth w.if-place-from.false w.nth-is
    ] in
    let header : c.limits-header.result.item_header ≡ (limits_of c.args.version).item_header = ap (λ (l : VersionLimits). l.item_header) c.limits-header.ensures.value in
    let bytes = c.measure_at-payload.ensures.bytes in
    let whole = turn_stop c.args.version dest from c.loop-round.lap c.loop-round.at to q nth c.args.room c.loop-round.left c.loop-round.count rows (fit c.args.version c.args.room (walk from (queues dest rows))) t v c.loop-round.invariant.same (omega (arith, c.if-left-bytes.true)) in
    whole.0

pub returns-then-left-bytes-clause-bytes : goal.returns-then-left-bytes-clause-bytes
returns-then-left-bytes-clause-bytes g c =
    let dest = c.args.dest.number in
    let rows : List Row = c.args.self.now.rows in
    let from = c.args.from in
    let q = c.in-Some.place in
    let to = c.in-Some.round in
    let nth = c.if-place-from.nth in
    let t : IsTurn dest from c.loop-round.lap c.loop-round.at rows to q = c.in-Some.ensures.turn in
    let v : nth ≡ visits from to q q = elim c.if-place-from.branch [
      | then-place-from w ↦ visits-first from to q nth w.if-place-from.true w.nth-is
      | else-place-from w ↦ visits-later from to q nth w.if-place-from.false w.nth-is
    ] in
    let header : c.limits-header.result.item_header ≡ (limits_of c.args.version).item_header = ap (λ (l : VersionLimits). l.item_header) c.limits-header.ensures.value in
    let bytes = c.measure_at-payload.ensures.bytes in
    let whole = turn_stop c.args.version dest from c.loop-round.lap c.loop-round.at to q nth c.args.room c.loop-round.left c.loop-round.count rows (fit c.args.version c.args.room (walk from (queues dest rows))) t v c.loop-round.invariant.same (omega (arith, c.if-left-bytes.true)) in
    let sum = whole.1 in omega arith

pub loop-round-preserved : goal.loop-round-preserved
loop-round-preserved g c =
    let dest = c.args.dest.number in
    let rows : List Row = c.args.self.now.rows in
    let from = c.args.from in
    let q = c.in-Some.place in
    let to = c.in-Some.round in
    let row = row_at rows q in
    let nth = c.if-place-from.nth in
    let t : IsTurn dest from c.loop-round.lap c.loop-round.at rows to q = c.in-Some.ensures.turn in
    let v : nth ≡ visits from to q q = elim c.if-place-from.branch [
      | then-place-from w ↦ visits-first from to q nth w.if-place-from.true w.nth-is
      | else-place-from w ↦ visits-later from to q nth w.if-place-from.false w.nth-is
    ] in
    let e = get_or (queue dest row) nth no_entry in
    let here = row_here rows q t.within in
    let item = turn_item dest from c.loop-round.lap c.loop-round.at to q nth rows row t v here in
    let i = c.loop-round.invariant in
    let fits = c.if-left-bytes.false in
    let len = c.measure_at-payload.ensures.bytes in
    let cnt = c.measure_at-payload.ensures.waiting in
    let words : List ℕ = c.loop-round.active in
    let index : IsActive c.if-waiting-nth.active (ahead from to (q + 1) 0 (queues dest rows)) = elim c.if-waiting-nth.branch [
      | then-waiting-nth w ↦
          rw w.active-is (active_next dest from c.loop-round.lap c.loop-round.at to q nth words w.remove_of.new.words rows row t v here i.index (let h = w.remove_of.ensures.here in let k = w.if-waiting-nth.true in omega arith) w.remove_of.ensures.others)
      | else-waiting-nth w ↦
          rw w.active-is (active_next dest from c.loop-round.lap c.loop-round.at to q nth words words rows row t v here i.index (let h = i.index.each q in let k = ap (λ (L : List (List Entry)). length (get_or L q [])) t.left_is in let f = w.if-waiting-nth.false in let n = item.0 in let m = item.1 in omega arith) (λ p _. refl))
    ] in
    let summary : IsSummary c.if-waiting-nth.active c.if-waiting-nth.summary = elim c.if-waiting-nth.branch [
      | then-waiting-nth w ↦ rw w.active-is (rw w.summary-is w.remove_of.ensures.summary)
      | else-waiting-nth w ↦ rw w.active-is (rw w.summary-is i.summary)
    ] in
    let header : c.limits-header.result.item_header ≡ (limits_of c.args.version).item_header = ap (λ (l : VersionLimits). l.item_header) c.limits-header.ensures.value in
    let least = c.limits-header.ensures.header in
    let bytes : c.measure_at-payload.result.0 ≡ length e.payload = len in
    rw (bytes, header) (record {
      within = let h = t.within in omega arith;
      begun = λ h. t.begun (omega arith);
      laps = let h = t.near in omega (arith, i.laps, header, least);
      few = let h = i.few in omega (arith, bytes, header, least, fits);
      index = index;
      summary = summary;
      same = turn_taken c.args.version dest from c.loop-round.lap c.loop-round.at to q nth c.args.room c.loop-round.left c.loop-round.count rows (fit c.args.version c.args.room (walk from (queues dest rows))) t v i.same (omega (arith, bytes, header, fits));
    })

pub returns-clause-count : goal.returns-clause-count
returns-clause-count g c = (measured_none c.args.version c.args.room c.loop-round.left c.loop-round.count _ _ c.loop-round.invariant.same c.in_default.ensures.turn).0

pub returns-clause-bytes : goal.returns-clause-bytes
returns-clause-bytes g c = let sum = (measured_none c.args.version c.args.room c.loop-round.left c.loop-round.count _ _ c.loop-round.invariant.same c.in_default.ensures.turn).1 in omega arith

pub next_turn-requires-clause-summary : goal.next_turn-requires-clause-summary
next_turn-requires-clause-summary g c = c.loop-round.invariant.summary

pub remove_of-requires-clause-summary : goal.remove_of-requires-clause-summary
remove_of-requires-clause-summary g c = c.loop-round.invariant.summary
