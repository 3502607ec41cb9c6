use Rattle.gb_types.specs.Common.{sym, arith}
use Rattle.gb_layer.proofs.TableLemmas.{stands_there}
use Rattle.gb_layer.proofs.PlacesLemmas.{get_within}
use Rattle.gb_layer.proofs.table.Table.places.Goals as goal

pub returns-in-Some-place-clause-stands : goal.returns-in-Some-place-clause-stands
returns-in-Some-place-clause-stands c = λ ms len leads j x at t.
    let l = c.args.self.now in
    let n = stands_there l.width l.told.items c.args.m c.in-Some.v (sym c.in-Some.ensures) ms 0 j x at t leads in
    let there = c.in-Some-place.ensures.0 in
    (omega (arith, n, there), omega (arith, n, there))

pub returns-in-None-place-clause-stands : goal.returns-in-None-place-clause-stands
returns-in-None-place-clause-stands c = λ ms len leads j x at t.
    let l = c.args.self.now in
    let n = stands_there l.width l.told.items c.args.m c.in-Some.v (sym c.in-Some.ensures) ms 0 j x at t leads in
    let lt = get_within ms j x at in
    let out = c.in-None-place.ensures in
    absurd (grind (arith, n, lt, out, len))

pub returns-in-None-clause-stands : goal.returns-in-None-clause-stands
returns-in-None-clause-stands c = λ ms len leads j x at t.
    let lt = get_within ms j x at in
    (omega arith, omega (arith, lt, len))
