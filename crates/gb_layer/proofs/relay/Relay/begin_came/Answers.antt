use Rattle.gb_types.specs.Common.{◌≡◌, ◌∙◌, List, length, ap, sym, subst, arith}
use Rattle.gb_layer.specs.declared.{call.Call.TheVariants.Came, entries.Entry.Entry}
use Rattle.gb_layer.specs.Relay.{taken_in, noting, call_below}
use Rattle.gb_layer.specs.Due.{OnlyDueAt}
use Rattle.gb_layer.specs.PlacedCalls.{message_at}
use Rattle.gb_layer.specs.RelayColumn.{state_of}
use Rattle.gb_layer.proofs.KnowsLemmas.{knows_told}
use Rattle.gb_layer.proofs.SettleLemmas.{InOrder, zipped_in_order, place_found, came_due}
use Rattle.gb_layer.proofs.relay.Relay.begin_came.Goals as goal

pub returns-clause-len : goal.returns-clause-len
returns-clause-len g c =
    let ok = c.note.new.column.ok.0 in
    let ok' = c.call_lower.new.column.ok.0 in
    let len = c.call_lower.ensures.len in
    let same : length c.call_lower.new.column.items ≡ length c.note.new.column.items = omega (arith, ok, ok', len) in
    same ∙ c.note.ensures.count

pub returns-clause-known : goal.returns-clause-known
returns-clause-known g c = λ n w k next.
    let L = g.L.Layer in
    let ms = c.args.index.now.list.items in
    let self = c.args.self.now in
    let told = k.count in
    let first = next.0 in
    let low = c.call_lower.ensures.known (length self.column.items) w k.knows.lower (omega (arith, told, first), next.1) in
    let ok = c.note.new.column.ok.0 in
    let ok' = c.call_lower.new.column.ok.0 in
    let len = c.call_lower.ensures.len in
    let same : length c.call_lower.new.column.items ≡ length c.note.new.column.items = omega (arith, ok, ok', len) in
    knows_told L.knows ms self _ w c.args.place k.knows c.requires.there next.1 (same ∙ c.note.ensures.count) (c.call_lower.ensures.capacity ∙ c.note.ensures.capacity) low

pub returns-clause-due : goal.returns-clause-due
returns-clause-due g c = λ n w k.
    let L = g.L.Layer in
    let R = g.R.Rule.rules in
    let ms = c.args.index.now.list.items in
    let self = c.args.self.now in
    let p = c.args.place in
    let m = message_at ms p in
    let r = state_of L.meaning ms self in
    let differ = c.args.index.now.differ in
    let order = subst (InOrder ms) c.note.ensures.entries (zipped_in_order ms c.note.new.column.items differ) in
    let entries = c.call_lower.ensures.entries ∙ ap (λ (es : List Entry). taken_in (L.me r.lower) (L.gives r.lower (Came c.args.from m)).ups es) c.note.ensures.entries in
    let is : record { lower = L.meaning ms c.call_lower.new.lower; members = self.members; noticed = self.noticed; entries = _ } ≡ call_below L.next L.gives L.me (noting r m) (Came c.args.from m) =
    λ j. record { lower = c.call_lower.ensures.meaning j; members = self.members; noticed = self.noticed; entries = entries j } in
    subst (OnlyDueAt L.me R p) (sym is) (came_due L.next L.gives L.me R g.met.L.Layer.me_stays g.met.L.Focused.brings_own ms r c.args.from m p order (place_found ms p differ c.requires.there) k.quiet)
