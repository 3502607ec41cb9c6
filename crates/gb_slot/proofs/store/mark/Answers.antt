use Rattle.gb_types.specs.Common.{◌<◌, ◌∙◌, ap, sym, subst, set, length, arith}
use Rattle.std.specs.FinSet as nodes
use Rattle.gb_slot.specs.Kept.{AreInside, arrivals_of, entries_of}
use Rattle.gb_slot.proofs.PlaceLemmas.{marked, entries_marked, inside_marked, node_there}
use Rattle.gb_slot.proofs.store.mark.Goals as goal

pub returns-clause-arrivals : goal.returns-clause-arrivals
returns-clause-arrivals c = λ ms len differ.
    let p = c.args.from in
    let kept = c.args.kept.now.items in
    let i = c.args.place in
    let x = c.index_mut.result.now in
    let within : i < length kept = omega (arith, c.requires, c.args.kept.now.ok.0) in
    (λ j. arrivals_of ms (set kept i (marked (c.insert.ensures j) x)))
    ∙ (ap (λ y. arrivals_of ms (set kept i (marked (nodes.insert y.from p.number) y))) c.index_mut.ensures.value ∙ node_there p ms kept i x differ len within)

pub returns-clause-entries : goal.returns-clause-entries
returns-clause-entries c = λ bytes ms.
    let kept = c.args.kept.now.items in
    let i = c.args.place in
    let from = c.insert.new.self in
    ap (λ y. entries_of bytes ms (set kept i (marked from y))) c.index_mut.ensures.value ∙ entries_marked from ms kept i c.index_mut.result.now bytes

pub returns-clause-inside : goal.returns-clause-inside
returns-clause-inside c = λ bytes inside.
    let kept = c.args.kept.now.items in
    let i = c.args.place in
    let from = c.insert.new.self in
    subst (λ y. AreInside bytes (set kept i (marked from y))) (sym c.index_mut.ensures.value) (inside_marked from kept i c.index_mut.result.now bytes inside)
