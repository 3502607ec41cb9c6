use Rattle.gb_types.specs.Common.{get_or, refl}
use Rattle.gb_table.proofs.BusyLemmas.{busy_at, inside, place_of, same_next, same_early, none_next}
use Rattle.gb_table.proofs.SteppedLemmas.{busy_now}
use Rattle.gb_table.proofs.groups.Groups.next_place.Goals as goal

pub returns-in-Some-clause-place : goal.returns-in-Some-clause-place
returns-in-Some-clause-place c =
    let words = get_or c.self.inside.busy c.index.result c.index-self-index.result in
    let busy = busy_now c.self.inside c.args.self.now c.args.dest c.index.result words c.index-self-index.result c.self.invariant c.self.view_is c.index.ensures.value refl in
    let next = c.in-Some.ensures in
    place_of c.args.dest.number c.args.from c.in-Some.place c.args.self.now.rows (busy_at c.args.dest.number words c.args.self.now.rows c.in-Some.place busy next.here) (same_next c.args.dest.number c.args.from c.in-Some.place words c.args.self.now.rows busy next)

pub returns-in-Some-clause-same : goal.returns-in-Some-clause-same
returns-in-Some-clause-same c =
    let words = get_or c.self.inside.busy c.index.result c.index-self-index.result in
    let busy = busy_now c.self.inside c.args.self.now c.args.dest c.index.result words c.index-self-index.result c.self.invariant c.self.view_is c.index.ensures.value refl in
    same_next c.args.dest.number c.args.from c.in-Some.place words c.args.self.now.rows busy c.in-Some.ensures

pub returns-in-Some-clause-busy : goal.returns-in-Some-clause-busy
returns-in-Some-clause-busy c =
    let words = get_or c.self.inside.busy c.index.result c.index-self-index.result in
    let busy = busy_now c.self.inside c.args.self.now c.args.dest c.index.result words c.index-self-index.result c.self.invariant c.self.view_is c.index.ensures.value refl in
    busy_at c.args.dest.number words c.args.self.now.rows c.in-Some.place busy c.in-Some.ensures.here

pub returns-in-Some-clause-within : goal.returns-in-Some-clause-within
returns-in-Some-clause-within c =
    let words = get_or c.self.inside.busy c.index.result c.index-self-index.result in
    let busy = busy_now c.self.inside c.args.self.now c.args.dest c.index.result words c.index-self-index.result c.self.invariant c.self.view_is c.index.ensures.value refl in
    inside c.args.dest.number c.args.self.now.rows c.in-Some.place (busy_at c.args.dest.number words c.args.self.now.rows c.in-Some.place busy c.in-Some.ensures.here)

pub returns-in-Some-next-clause-place : goal.returns-in-Some-next-clause-place
returns-in-Some-next-clause-place c =
    let words = get_or c.self.inside.busy c.index.result c.index-self-index.result in
    let busy = busy_now c.self.inside c.args.self.now c.args.dest c.index.result words c.index-self-index.result c.self.invariant c.self.view_is c.index.ensures.value refl in
    let next = c.in-Some-next.ensures in
    place_of c.args.dest.number c.args.from c.in-Some-next.early c.args.self.now.rows (busy_at c.args.dest.number words c.args.self.now.rows c.in-Some-next.early busy next.here) (same_early c.args.dest.number c.args.from c.in-Some-next.early words c.args.self.now.rows busy c.requires.from c.in-None.ensures next)

pub returns-in-Some-next-clause-same : goal.returns-in-Some-next-clause-same
returns-in-Some-next-clause-same c =
    let words = get_or c.self.inside.busy c.index.result c.index-self-index.result in
    let busy = busy_now c.self.inside c.args.self.now c.args.dest c.index.result words c.index-self-index.result c.self.invariant c.self.view_is c.index.ensures.value refl in
    same_early c.args.dest.number c.args.from c.in-Some-next.early words c.args.self.now.rows busy c.requires.from c.in-None.ensures c.in-Some-next.ensures

pub returns-in-Some-next-clause-busy : goal.returns-in-Some-next-clause-busy
returns-in-Some-next-clause-busy c =
    let words = get_or c.self.inside.busy c.index.result c.index-self-index.result in
    let busy = busy_now c.self.inside c.args.self.now c.args.dest c.index.result words c.index-self-index.result c.self.invariant c.self.view_is c.index.ensures.value refl in
    busy_at c.args.dest.number words c.args.self.now.rows c.in-Some-next.early busy c.in-Some-next.ensures.here

pub returns-in-Some-next-clause-within : goal.returns-in-Some-next-clause-within
returns-in-Some-next-clause-within c =
    let words = get_or c.self.inside.busy c.index.result c.index-self-index.result in
    let busy = busy_now c.self.inside c.args.self.now c.args.dest c.index.result words c.index-self-index.result c.self.invariant c.self.view_is c.index.ensures.value refl in
    inside c.args.dest.number c.args.self.now.rows c.in-Some-next.early (busy_at c.args.dest.number words c.args.self.now.rows c.in-Some-next.early busy c.in-Some-next.ensures.here)

pub returns-in-None-next-clause-place : goal.returns-in-None-next-clause-place
returns-in-None-next-clause-place c =
    let words = get_or c.self.inside.busy c.index.result c.index-self-index.result in
    let busy = busy_now c.self.inside c.args.self.now c.args.dest c.index.result words c.index-self-index.result c.self.invariant c.self.view_is c.index.ensures.value refl in
    none_next c.args.dest.number c.args.from words c.args.self.now.rows busy c.in-None-next.ensures

pub returns-in-Some-clause-few : goal.returns-in-Some-clause-few
returns-in-Some-clause-few c =
    let words = get_or c.self.inside.busy c.index.result c.index-self-index.result in
    let busy = busy_now c.self.inside c.args.self.now c.args.dest c.index.result words c.index-self-index.result c.self.invariant c.self.view_is c.index.ensures.value refl in
    busy.few

pub returns-in-Some-next-clause-few : goal.returns-in-Some-next-clause-few
returns-in-Some-next-clause-few c =
    let words = get_or c.self.inside.busy c.index.result c.index-self-index.result in
    let busy = busy_now c.self.inside c.args.self.now c.args.dest c.index.result words c.index-self-index.result c.self.invariant c.self.view_is c.index.ensures.value refl in
    busy.few

pub returns-in-None-next-clause-few : goal.returns-in-None-next-clause-few
returns-in-None-next-clause-few c =
    let words = get_or c.self.inside.busy c.index.result c.index-self-index.result in
    let busy = busy_now c.self.inside c.args.self.now c.args.dest c.index.result words c.index-self-index.result c.self.invariant c.self.view_is c.index.ensures.value refl in
    busy.few
