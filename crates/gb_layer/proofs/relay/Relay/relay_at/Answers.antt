use Rattle.gb_types.specs.Common.{◌≡◌, ℕ, ◌∙◌, Bool, List, cond, fold, slice_get, length, ap, sym, subst, arith, Option, None, Some}
use Rattle.gb_types.specs.declared.message.MsgId.{MsgId}
use Rattle.gb_layer.specs.declared.{entries.Entry.Entry, call.Call.TheVariants.Say}
use Rattle.gb_layer.specs.Relay.{due_message, relay_any, relay_any_sends, taken_in}
use Rattle.gb_layer.specs.PlacedCalls.{message_at}
use Rattle.gb_layer.specs.Sinks.{sends_alone}
use Rattle.gb_layer.specs.RelayColumn.{state_of}
use Rattle.gb_layer.proofs.KnowsLemmas.{knows_kept, reached_known}
use Rattle.gb_layer.proofs.relay.Relay.relay_at.Goals as goal

pub mark_sent-requires-clause-there : goal.mark_sent-requires-clause-there
mark_sent-requires-clause-there g c =
    let within = c.requires.known.1.within in
    let i = c.requires.within in
    omega (arith, within, i)

pub call_lower-requires-clause-there : goal.call_lower-requires-clause-there
call_lower-requires-clause-there g c =
    let within = c.requires.known.1.within in
    let i = c.requires.within in
    omega (arith, within, i)

pub call_lower-requires-clause-known : goal.call_lower-requires-clause-known
call_lower-requires-clause-known g c =
    let k = c.requires.known.1 in
    let few = k.few in
    let i = c.requires.within in
    record {
      count = length c.args.self.now.column.items;
      memory = c.requires.known.0;
      knows = k.lower;
      next = (omega (arith, i), omega (arith, i, few));
    }

pub call_lower-requires-clause-room : goal.call_lower-requires-clause-room
call_lower-requires-clause-room g c =
    let L = g.L.Layer in
    let R = g.R.Rule.rules in
    let ms = c.args.index.now.list.items in
    let self = c.args.self.now in
    let r = state_of L.meaning ms self in
    let m = message_at ms c.args.i in
    let s = g.O.Sink.state ms c.args.out.now in
    let due : due_message L.next L.gives L.me R r (slice_get r.entries c.args.i) ≡ Some m = c.is_due_at.ensures ∙ ap (λ (b : Bool). cond b (Some m) None) c.if-is_due_at.true in
    subst (λ (o : Option MsgId). g.O.Sink.takes s (sends_alone (relay_any_sends L.next L.gives L.me R r o))) due c.requires.room

pub returns-then-is_due_at-clause-state : goal.returns-then-is_due_at-clause-state
returns-then-is_due_at-clause-state g c =
    let L = g.L.Layer in
    let R = g.R.Rule.rules in
    let ms = c.args.index.now.list.items in
    let self = c.args.self.now in
    let r = state_of L.meaning ms self in
    let m = message_at ms c.args.i in
    let due : due_message L.next L.gives L.me R r (slice_get r.entries c.args.i) ≡ Some m = c.is_due_at.ensures ∙ ap (λ (b : Bool). cond b (Some m) None) c.if-is_due_at.true in
    let entries = c.call_lower.ensures.entries ∙ ap (λ (es : List Entry). taken_in (L.me r.lower) (L.gives r.lower (Say m)).ups es) c.mark_sent.ensures.entries in
    (λ j. record { lower = c.call_lower.ensures.meaning j; members = self.members; noticed = self.noticed; entries = entries j }) ∙ sym (ap (relay_any L.next L.gives L.me R r) due)

pub returns-then-is_due_at-clause-out : goal.returns-then-is_due_at-clause-out
returns-then-is_due_at-clause-out g c =
    let L = g.L.Layer in
    let R = g.R.Rule.rules in
    let ms = c.args.index.now.list.items in
    let r = state_of L.meaning ms c.args.self.now in
    let m = message_at ms c.args.i in
    let s = g.O.Sink.state ms c.args.out.now in
    let due : due_message L.next L.gives L.me R r (slice_get r.entries c.args.i) ≡ Some m = c.is_due_at.ensures ∙ ap (λ (b : Bool). cond b (Some m) None) c.if-is_due_at.true in
    c.call_lower.ensures.out ∙ sym (ap (λ (o : Option MsgId). fold g.O.Sink.sent s (relay_any_sends L.next L.gives L.me R r o)) due)

pub returns-then-is_due_at-clause-known : goal.returns-then-is_due_at-clause-known
returns-then-is_due_at-clause-known g c = λ w k.
    let L = g.L.Layer in
    let ms = c.args.index.now.list.items in
    let self = c.args.self.now in
    let n = length self.column.items in
    let i = c.requires.within in
    let few = k.few in
    let low = c.call_lower.ensures.known n w k.lower (omega (arith, i), omega (arith, i, few)) in
    let ok = self.column.ok.0 in
    let ok' = c.call_lower.new.column.ok.0 in
    let a = c.mark_sent.ensures.len in
    let b = c.call_lower.ensures.len in
    knows_kept L.knows ms self _ w k (omega (arith, ok, ok', a, b)) (c.call_lower.ensures.capacity ∙ c.mark_sent.ensures.capacity)
    (subst (λ (v : ℕ). L.knows ms c.call_lower.new.lower v w) (reached_known n c.args.i i) low)

pub returns-else-is_due_at-clause-state : goal.returns-else-is_due_at-clause-state
returns-else-is_due_at-clause-state g c =
    let L = g.L.Layer in
    let R = g.R.Rule.rules in
    let ms = c.args.index.now.list.items in
    let r = state_of L.meaning ms c.args.self.now in
    let m = message_at ms c.args.i in
    let due : due_message L.next L.gives L.me R r (slice_get r.entries c.args.i) ≡ None = c.is_due_at.ensures ∙ ap (λ (b : Bool). cond b (Some m) None) c.if-is_due_at.false in
    sym (ap (relay_any L.next L.gives L.me R r) due)

pub returns-else-is_due_at-clause-out : goal.returns-else-is_due_at-clause-out
returns-else-is_due_at-clause-out g c =
    let L = g.L.Layer in
    let R = g.R.Rule.rules in
    let ms = c.args.index.now.list.items in
    let r = state_of L.meaning ms c.args.self.now in
    let m = message_at ms c.args.i in
    let s = g.O.Sink.state ms c.args.out.now in
    let due : due_message L.next L.gives L.me R r (slice_get r.entries c.args.i) ≡ None = c.is_due_at.ensures ∙ ap (λ (b : Bool). cond b (Some m) None) c.if-is_due_at.false in
    sym (ap (λ (o : Option MsgId). fold g.O.Sink.sent s (relay_any_sends L.next L.gives L.me R r o)) due)
