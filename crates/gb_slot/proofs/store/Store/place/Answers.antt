use Rattle.gb_types.specs.Common.{◌≡◌, ◌<◌, length, sym, ap, ◌∙◌, arith}
use Rattle.gb_layer.specs.Common.{message_at}
use Rattle.gb_slot.proofs.PlaceLemmas.{any_entries, read_there}
use Rattle.gb_slot.proofs.store.Store.place.Goals as goal

pub returns-in-Some : goal.returns-in-Some
returns-in-Some c =
    let s = c.self.inside in
    let len : length s.kept.items ≡ length s.index.list.items = omega (arith, c.self.invariant.0, s.kept.ok.0, s.index.list.ok.0) in
    let found = c.in-Some.ensures in
    let at : c.from.result ≡ c.in-Some.place = c.from.ensures in
    let within : c.from.result < length s.index.list.items = omega (arith, found.0, at) in
    rw (← c.self.view_is) (read_there s.bytes.items s.index.list.items s.kept.items c.args.m c.from.result len within (sym (ap (message_at s.index.list.items) at ∙ found.1)))

pub returns-in-None : goal.returns-in-None
returns-in-None c =
    let s = c.self.inside in
    let len : length s.kept.items ≡ length s.index.list.items = omega (arith, c.self.invariant.0, s.kept.ok.0, s.index.list.ok.0) in
    rw (← c.self.view_is) (any_entries s.bytes.items s.index.list.items s.kept.items c.args.m len ∙ c.in-None.ensures)
