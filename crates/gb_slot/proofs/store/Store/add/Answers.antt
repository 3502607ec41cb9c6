use Rattle.gb_types.specs.Common.{◌≡◌, ◌+◌, ◌∷◌, ◌++◌, [], ◌∙◌, ap, sym, subst, length, arith, length_push}
use Rattle.gb_rules.specs.Common.{has}
use Rattle.gb_slot.specs.Kept.{entries_of, AreCounted}
use Rattle.gb_slot.specs.StoreValue.{StoreValue, total_bytes}
use Rattle.gb_slot.proofs.FewLemmas.{few_counted, total_pushed}
use Rattle.gb_slot.proofs.PlaceLemmas.{any_entries, entries_count}
use Rattle.gb_slot.proofs.store.Store.add.Goals as goal

pub push-place-requires-clause-new : goal.push-place-requires-clause-new
push-place-requires-clause-new c =
    let s = c.self.inside in
    let len : length s.kept.items ≡ length s.index.list.items = omega (arith, c.self.invariant.0, s.kept.ok.0, s.index.list.ok.0) in
    let unknown = ap (λ (v : StoreValue). has v.entries c.args.m) c.self.view_is ∙ c.requires.new in
    sym (any_entries s.bytes.items s.index.list.items s.kept.items c.args.m len) ∙ unknown

pub push-place-requires-clause-memory : goal.push-place-requires-clause-memory
push-place-requires-clause-memory c =
    let s = c.self.inside in
    let len : length s.kept.items ≡ length s.index.list.items = omega (arith, c.self.invariant.0, s.kept.ok.0, s.index.list.ok.0) in
    let count = ap (λ (v : StoreValue). length v.entries) c.self.view_is in
    let places = ap (λ (v : StoreValue). v.places) c.self.view_is in
    let all = entries_count s.bytes.items s.index.list.items s.kept.items len in
    omega (arith, count, places, all, s.index.list.ok.0, c.requires.place, c.self.invariant.4)

pub push-place-requires-clause-few : goal.push-place-requires-clause-few
push-place-requires-clause-few c =
    let s = c.self.inside in
    let len : length s.kept.items ≡ length s.index.list.items = omega (arith, c.self.invariant.0, s.kept.ok.0, s.index.list.ok.0) in
    let count = ap (λ (v : StoreValue). length v.entries) c.self.view_is in
    let places = ap (λ (v : StoreValue). v.places) c.self.view_is in
    let all = entries_count s.bytes.items s.index.list.items s.kept.items len in
    omega (arith, count, places, all, s.index.list.ok.0, c.requires.place, c.self.invariant.5)

pub append-requires-clause-place : goal.append-requires-clause-place
append-requires-clause-place c =
    let s = c.self.inside in
    let len : length s.kept.items ≡ length s.index.list.items = omega (arith, c.self.invariant.0, s.kept.ok.0, s.index.list.ok.0) in
    let count = ap (λ (v : StoreValue). length v.entries) c.self.view_is in
    let places = ap (λ (v : StoreValue). v.places) c.self.view_is in
    let all = entries_count s.bytes.items s.index.list.items s.kept.items len in
    omega (arith, count, places, all, len, s.kept.ok.0, c.requires.place)

pub append-requires-clause-start : goal.append-requires-clause-start
append-requires-clause-start c =
    let s = c.self.inside in
    let few = few_counted s.seen (entries_of s.bytes.items s.index.list.items s.kept.items) c.self.invariant.2 in
    omega (arith, few, c.self.invariant.3)

pub invariant_of-self : goal.invariant_of-self
invariant_of-self c =
    let s = c.self.inside in
    let m = c.args.m in
    let ms = s.index.list.items in
    let len : length s.kept.items ≡ length ms = omega (arith, c.self.invariant.0, s.kept.ok.0, s.index.list.ok.0) in
    let entries = ap (λ xs. entries_of c.append.new.bytes.items xs c.append.new.kept.items) c.push-place.ensures.items ∙ c.append.ensures.entries ms m (sym len) in
    let more : length c.push-place.new.self.list.items ≡ length (ms ++ m ∷ []) = ap length c.push-place.ensures.items in
    let one = length_push ms m in (
      omega (arith, c.append.ensures.kept.0, c.self.invariant.0, more, one, c.push-place.new.self.list.ok.0, s.index.list.ok.0),
      c.append.ensures.inside,
      subst (AreCounted c.count_bytes.new.seen) (sym entries) (c.count_bytes.ensures (entries_of s.bytes.items ms s.kept.items) c.self.invariant.2),
      c.append.ensures.bytes.0 ∙ (ap (λ n. n + length c.args.payload.now) c.self.invariant.3 ∙ sym (ap total_bytes entries ∙ total_pushed (entries_of s.bytes.items ms s.kept.items) _)),
      omega (arith, c.append.ensures.kept.1, c.push-place.ensures.memory, c.self.invariant.4),
      omega (arith, c.append.ensures.kept.1, c.self.invariant.5),
    )

pub returns-clause-place : goal.returns-clause-place
returns-clause-place c =
    let s = c.self.inside in
    let len : length s.kept.items ≡ length s.index.list.items = omega (arith, c.self.invariant.0, s.kept.ok.0, s.index.list.ok.0) in
    let count = ap (λ (v : StoreValue). length v.entries) c.self.view_is in
    omega (arith, count, entries_count s.bytes.items s.index.list.items s.kept.items len, c.push-place.ensures.place)
