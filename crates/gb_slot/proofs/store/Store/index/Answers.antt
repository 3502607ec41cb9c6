use Rattle.gb_types.specs.Common.{◌≡◌, sym, length, arith}
use Rattle.gb_slot.proofs.PlaceLemmas.{entries_ids}
use Rattle.gb_slot.proofs.store.Store.index.Goals as goal

pub returns : goal.returns
returns c =
    let s = c.self.inside in
    let len : length s.kept.items ≡ length s.index.list.items = omega (arith, c.self.invariant.0, s.kept.ok.0, s.index.list.ok.0) in
    rw (← c.self.view_is) (sym (entries_ids s.bytes.items s.index.list.items s.kept.items len))
