use Rattle.gb_types.specs.Common.{◌≡◌, ◌<◌, length, ap, arith}
use Rattle.gb_slot.specs.StoreValue.{StoreValue}
use Rattle.gb_slot.proofs.PlaceLemmas.{entries_count, read_there}
use Rattle.gb_slot.proofs.store.Store.at.Goals as goal

pub overflow_cast-place : goal.overflow_cast-place
overflow_cast-place c =
    let s = c.self.inside in
    let len : length s.kept.items ≡ length s.index.list.items = omega (arith, c.self.invariant.0, s.kept.ok.0, s.index.list.ok.0) in
    let count = ap (λ (v : StoreValue). length v.entries) c.self.view_is in
    omega (arith, c.requires, count, entries_count s.bytes.items s.index.list.items s.kept.items len, s.index.few)

pub message-requires : goal.message-requires
message-requires c =
    let s = c.self.inside in
    let len : length s.kept.items ≡ length s.index.list.items = omega (arith, c.self.invariant.0, s.kept.ok.0, s.index.list.ok.0) in
    let count = ap (λ (v : StoreValue). length v.entries) c.self.view_is in
    omega (arith, c.requires, count, entries_count s.bytes.items s.index.list.items s.kept.items len)

pub part-requires-clause-within : goal.part-requires-clause-within
part-requires-clause-within c =
    let s = c.self.inside in
    let len : length s.kept.items ≡ length s.index.list.items = omega (arith, c.self.invariant.0, s.kept.ok.0, s.index.list.ok.0) in
    let count = ap (λ (v : StoreValue). length v.entries) c.self.view_is in
    omega (arith, c.requires, count, entries_count s.bytes.items s.index.list.items s.kept.items len, len, s.kept.ok.0, c.deref.ensures.len)

pub returns-clause-message : goal.returns-clause-message
returns-clause-message c =
    let s = c.self.inside in
    let len : length s.kept.items ≡ length s.index.list.items = omega (arith, c.self.invariant.0, s.kept.ok.0, s.index.list.ok.0) in
    let count = ap (λ (v : StoreValue). length v.entries) c.self.view_is in
    let within : c.args.place < length s.index.list.items = omega (arith, c.requires, count, entries_count s.bytes.items s.index.list.items s.kept.items len) in
    rw (← c.self.view_is) (read_there s.bytes.items s.index.list.items s.kept.items c.message.result c.args.place len within c.message.ensures)
