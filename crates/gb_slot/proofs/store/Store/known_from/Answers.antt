use Rattle.gb_types.specs.Common.{◌≡◌, ◌<◌, length, sym, ap, ◌∙◌, arith, nat_cmp, slice_index_or}
use Rattle.std.specs.FinSet as set
use Rattle.gb_slot.specs.Arrivals.{nodes_of}
use Rattle.gb_slot.specs.Kept.{arrivals_of}
use Rattle.gb_slot.proofs.PlaceLemmas.{any_entries, any_arrivals, stands_there, read_there, nodes_there, nodes_missing}
use Rattle.gb_slot.proofs.store.Store.known_from.Goals as goal

pub returns-in-Some-clause-place : goal.returns-in-Some-clause-place
returns-in-Some-clause-place c =
    let s = c.self.inside in
    let len : length s.kept.items ≡ length s.index.list.items = omega (arith, c.self.invariant.0, s.kept.ok.0, s.index.list.ok.0) in
    let found = c.in-Some.ensures in
    rw (← c.self.view_is) (read_there s.bytes.items s.index.list.items s.kept.items c.args.m c.in-Some.place len found.0 (sym found.1))

pub returns-in-Some-clause-entries : goal.returns-in-Some-clause-entries
returns-in-Some-clause-entries c =
    let s = c.self.inside in
    let len : length s.kept.items ≡ length s.index.list.items = omega (arith, c.self.invariant.0, s.kept.ok.0, s.index.list.ok.0) in
    let found = c.in-Some.ensures in
    rw (← c.self.view_is) (sym (any_entries s.bytes.items s.index.list.items s.kept.items c.args.m len ∙ stands_there s.index.list.items c.args.m c.in-Some.place found.0 found.1))

pub returns-in-Some-clause-arrivals : goal.returns-in-Some-clause-arrivals
returns-in-Some-clause-arrivals c =
    let s = c.self.inside in
    let len : length s.kept.items ≡ length s.index.list.items = omega (arith, c.self.invariant.0, s.kept.ok.0, s.index.list.ok.0) in
    let found = c.in-Some.ensures in
    rw (← c.self.view_is) (sym (any_arrivals s.index.list.items s.kept.items c.args.m len ∙ stands_there s.index.list.items c.args.m c.in-Some.place found.0 found.1))

pub returns-in-Some-clause-taken : goal.returns-in-Some-clause-taken
returns-in-Some-clause-taken c =
    let s = c.self.inside in
    let ms = s.index.list.items in
    let kept = s.kept.items in
    let p = c.in-Some.place in
    let len : length kept ≡ length ms = omega (arith, c.self.invariant.0, s.kept.ok.0, s.index.list.ok.0) in
    let found = c.in-Some.ensures in
    let within : p < length kept = omega (arith, len, found.0) in
    let x = c.index.result.now in
    let here = ap (λ i. (slice_index_or kept i x).from) c.from.ensures in
    let nodes = ap (λ k. k.from) c.index.ensures ∙ here ∙ sym (nodes_there ms kept p x s.index.differ (sym len) within) ∙ ap (nodes_of (arrivals_of ms kept)) found.1 in
    rw (← c.self.view_is) (c.contains.ensures ∙ ap (λ some. set.contains some c.args.from.number) nodes)

pub returns-in-None-clause-entries : goal.returns-in-None-clause-entries
returns-in-None-clause-entries c =
    let s = c.self.inside in
    let len : length s.kept.items ≡ length s.index.list.items = omega (arith, c.self.invariant.0, s.kept.ok.0, s.index.list.ok.0) in
    rw (← c.self.view_is) (sym (any_entries s.bytes.items s.index.list.items s.kept.items c.args.m len ∙ c.in-None.ensures))

pub returns-in-None-clause-arrivals : goal.returns-in-None-clause-arrivals
returns-in-None-clause-arrivals c =
    let s = c.self.inside in
    let len : length s.kept.items ≡ length s.index.list.items = omega (arith, c.self.invariant.0, s.kept.ok.0, s.index.list.ok.0) in
    rw (← c.self.view_is) (sym (any_arrivals s.index.list.items s.kept.items c.args.m len ∙ c.in-None.ensures))

pub returns-in-None-clause-taken : goal.returns-in-None-clause-taken
returns-in-None-clause-taken c =
    let s = c.self.inside in
    let arrivals = arrivals_of s.index.list.items s.kept.items in
    let len : length s.kept.items ≡ length s.index.list.items = omega (arith, c.self.invariant.0, s.kept.ok.0, s.index.list.ok.0) in
    let none = nodes_missing c.args.m arrivals (any_arrivals s.index.list.items s.kept.items c.args.m len ∙ c.in-None.ensures) in
    rw (← c.self.view_is) (sym (ap (λ nodes. set.contains nodes c.args.from.number) none ∙ set.contains-empty nat_cmp c.args.from.number))
