use Rattle.gb_types.specs.Common.{◌≡◌, ℕ, ◌<◌, ◌++◌, ◌∷◌, ◌∙◌, [], Bool, true, List, cond, length, map, ap, sym, subst, arith}
use Rattle.gb_layer.specs.declared.{entries.Entry.Entry, call.Call.TheVariants.Say, column.Held.Held}
use Rattle.gb_layer.specs.EntryLemmas.{sent_noted, sent_has}
use Rattle.gb_layer.specs.Relay.{new_entry, is_sent, marked_sent, taken_in, noting, relay}
use Rattle.gb_layer.specs.Due.{OnlyDueAt}
use Rattle.gb_layer.specs.PlacedCalls.{message_at}
use Rattle.gb_layer.specs.Column.{zipped}
use Rattle.gb_layer.specs.RelayColumn.{state_of}
use Rattle.gb_layer.proofs.KnowsLemmas.{knows_told, reached_known, sent_within}
use Rattle.gb_layer.proofs.SettleLemmas.{InOrder, zipped_in_order, place_found, said_due, quiet_due}
use Rattle.gb_layer.proofs.relay.Relay.begin_say.Goals as goal

pub returns-else-not-was_sent-clause-state : goal.returns-else-not-was_sent-clause-state
returns-else-not-was_sent-clause-state g c =
    let L = g.L.Layer in
    let ms = c.args.index.now.list.items in
    let self = c.args.self.now in
    let r = state_of L.meaning ms self in
    let m = message_at ms c.args.place in
    let was : is_sent r.entries m ≡ true =
    sym (sent_noted r.entries m m)
    ∙ (ap (λ (es : List Entry). is_sent es m) (sym c.note.ensures.entries)
    ∙ (ap (λ (hs : List Held). is_sent (zipped ms hs) m) (sym c.deref.ensures.value) ∙ (sym c.was_sent.ensures ∙ c.if-not-was_sent.false))) in
    let entries = c.note.ensures.entries ∙ ap (λ (b : Bool). cond b r.entries (r.entries ++ new_entry m ∷ [])) (sent_has r.entries m was) in
    (λ j. record { lower = r.lower; members = self.members; noticed = self.noticed; entries = entries j }) ∙ sym (ap (λ (b : Bool). cond b r (relay L.next L.gives L.me (noting r m) m)) was)

pub returns-else-not-was_sent-clause-known : goal.returns-else-not-was_sent-clause-known
returns-else-not-was_sent-clause-known g c = λ n w k next.
    let L = g.L.Layer in
    let ms = c.args.index.now.list.items in
    let self = c.args.self.now in
    let hs = self.column.items in
    let p = c.args.place in
    let m = message_at ms p in
    let es = zipped ms hs in
    let was : is_sent es m ≡ true =
    sym (sent_noted es m m)
    ∙ (ap (λ (es : List Entry). is_sent es m) (sym c.note.ensures.entries)
    ∙ (ap (λ (hs : List Held). is_sent (zipped ms hs) m) (sym c.deref.ensures.value) ∙ (sym c.was_sent.ensures ∙ c.if-not-was_sent.false))) in
    let lt : p < length hs = sent_within ms hs p c.args.index.now.differ c.requires.there was in
    knows_told L.knows ms self _ w p k.knows c.requires.there next.1 c.note.ensures.count c.note.ensures.capacity (subst (λ (v : ℕ). L.knows ms self.lower v w) (sym (reached_known (length hs) p lt)) k.knows.lower)

pub returns-else-not-was_sent-clause-due : goal.returns-else-not-was_sent-clause-due
returns-else-not-was_sent-clause-due g c = λ n w k.
    let L = g.L.Layer in
    let ms = c.args.index.now.list.items in
    let self = c.args.self.now in
    let r = state_of L.meaning ms self in
    let m = message_at ms c.args.place in
    let was : is_sent r.entries m ≡ true =
    sym (sent_noted r.entries m m)
    ∙ (ap (λ (es : List Entry). is_sent es m) (sym c.note.ensures.entries)
    ∙ (ap (λ (hs : List Held). is_sent (zipped ms hs) m) (sym c.deref.ensures.value) ∙ (sym c.was_sent.ensures ∙ c.if-not-was_sent.false))) in
    let entries = c.note.ensures.entries ∙ ap (λ (b : Bool). cond b r.entries (r.entries ++ new_entry m ∷ [])) (sent_has r.entries m was) in
    let is : record { lower = r.lower; members = self.members; noticed = self.noticed; entries = zipped ms c.note.new.column.items } ≡ r =
    λ j. record { lower = r.lower; members = self.members; noticed = self.noticed; entries = entries j } in
    subst (OnlyDueAt L.me g.R.Rule.rules c.args.place) (sym is) (quiet_due L.next L.gives L.me g.R.Rule.rules g.met.L.Layer.me_stays g.met.L.Focused.brings_own ms r c.args.place k.quiet)

pub returns-then-not-was_sent-clause-len : goal.returns-then-not-was_sent-clause-len
returns-then-not-was_sent-clause-len g c =
    let ok = c.note.new.column.ok.0 in
    let ok' = c.call_lower.new.column.ok.0 in
    let a = c.mark_sent.ensures.len in
    let b = c.call_lower.ensures.len in
    let same : length c.call_lower.new.column.items ≡ length c.note.new.column.items = omega (arith, ok, ok', a, b) in
    same ∙ c.note.ensures.count

pub returns-then-not-was_sent-clause-known : goal.returns-then-not-was_sent-clause-known
returns-then-not-was_sent-clause-known g c = λ n w k next.
    let L = g.L.Layer in
    let ms = c.args.index.now.list.items in
    let self = c.args.self.now in
    let told = k.count in
    let first = next.0 in
    let low = c.call_lower.ensures.known (length self.column.items) w k.knows.lower (omega (arith, told, first), next.1) in
    let ok = c.note.new.column.ok.0 in
    let ok' = c.call_lower.new.column.ok.0 in
    let a = c.mark_sent.ensures.len in
    let b = c.call_lower.ensures.len in
    let same : length c.call_lower.new.column.items ≡ length c.note.new.column.items = omega (arith, ok, ok', a, b) in
    knows_told L.knows ms self _ w c.args.place k.knows c.requires.there next.1 (same ∙ c.note.ensures.count) (c.call_lower.ensures.capacity ∙ (c.mark_sent.ensures.capacity ∙ c.note.ensures.capacity)) low

pub returns-then-not-was_sent-clause-due : goal.returns-then-not-was_sent-clause-due
returns-then-not-was_sent-clause-due g c = λ n w k.
    let L = g.L.Layer in
    let R = g.R.Rule.rules in
    let ms = c.args.index.now.list.items in
    let self = c.args.self.now in
    let p = c.args.place in
    let m = message_at ms p in
    let r = state_of L.meaning ms self in
    let differ = c.args.index.now.differ in
    let order = subst (InOrder ms) c.note.ensures.entries (zipped_in_order ms c.note.new.column.items differ) in
    let entries = c.call_lower.ensures.entries ∙ ap (λ (es : List Entry). taken_in (L.me r.lower) (L.gives r.lower (Say m)).ups es) (c.mark_sent.ensures.entries ∙ ap (map (marked_sent m)) c.note.ensures.entries) in
    let is : record { lower = L.meaning ms c.call_lower.new.lower; members = self.members; noticed = self.noticed; entries = _ } ≡ relay L.next L.gives L.me (noting r m) m =
    λ j. record { lower = c.call_lower.ensures.meaning j; members = self.members; noticed = self.noticed; entries = entries j } in
    subst (OnlyDueAt L.me R p) (sym is) (said_due L.next L.gives L.me R g.met.L.Layer.me_stays g.met.L.Focused.brings_own ms r m p order (place_found ms p differ c.requires.there) k.quiet)
