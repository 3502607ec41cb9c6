use Rattle.gb_types.specs.Common.{◌≡◌, None, get_or, refl, rules, arith}
use Rattle.gb_table.specs.Packing.{queues, walk, first_place}
use Rattle.gb_table.proofs.BusyLemmas.{nothing_fits}
use Rattle.gb_table.proofs.SteppedLemmas.{busy_now, busy_copied}
use Rattle.gb_table.proofs.groups.Groups.measure_walk.Goals as goal

pub returns-then-is_none-clause-count : goal.returns-then-is_none-clause-count
returns-then-is_none-clause-count c =
    let none : first_place (walk c.args.from (queues c.args.dest.number c.args.self.now.rows)) ≡ None = search rules in
    (nothing_fits c.args.version c.args.room (walk c.args.from (queues c.args.dest.number c.args.self.now.rows)) none).0

pub returns-then-is_none-clause-bytes : goal.returns-then-is_none-clause-bytes
returns-then-is_none-clause-bytes c =
    let none : first_place (walk c.args.from (queues c.args.dest.number c.args.self.now.rows)) ≡ None = search rules in
    (nothing_fits c.args.version c.args.room (walk c.args.from (queues c.args.dest.number c.args.self.now.rows)) none).1

pub measure_busy-requires : goal.measure_busy-requires
measure_busy-requires c =
    let words = get_or c.self.inside.busy c.index.result c.index-self-index.result in
    let busy = busy_now c.self.inside c.args.self.now c.args.dest c.index.result words c.index-self-index.result c.self.invariant c.self.view_is c.index.ensures.value refl in
    (omega arith, (omega arith, (c.in-Some.ensures.summary c.summary-summary.result c.summary-summary.ensures, (c.requires.from, (c.requires.room, busy_copied c.args.dest.number words c.in-Some.words c.args.self.now.rows busy c.in-Some.ensures.same)))))

pub measure_busy-requires-in-Some-first_words : goal.measure_busy-requires-in-Some-first_words
measure_busy-requires-in-Some-first_words c =
    let words = get_or c.self.inside.busy c.index.result c.index-self-index.result in
    let busy = busy_now c.self.inside c.args.self.now c.args.dest c.index.result words c.index-self-index.result c.self.invariant c.self.view_is c.index.ensures.value refl in
    (omega arith, (omega arith, (c.in-Some-first_words.ensures.summary c.summary-summary.result c.summary-summary.ensures, (c.requires.from, (c.requires.room, busy_copied c.args.dest.number words c.in-Some-first_words.words c.args.self.now.rows busy c.in-Some-first_words.ensures.same)))))

pub measure_busy-requires-2 : goal.measure_busy-requires-2
measure_busy-requires-2 c =
    let words = get_or c.self.inside.busy c.index.result c.index-self-index.result in
    let busy = busy_now c.self.inside c.args.self.now c.args.dest c.index.result words c.index-self-index.result c.self.invariant c.self.view_is c.index.ensures.value refl in
    (omega arith, (omega arith, (c.words.ensures.summary c.summary-summary.result c.summary-summary.ensures, (c.requires.from, (c.requires.room, busy_copied c.args.dest.number words c.words.result c.args.self.now.rows busy c.words.ensures.same)))))
