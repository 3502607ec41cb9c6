use Rattle.gb_types.specs.Common.{◌<◌, ◌∙◌, List, slice_get, fold, length, ap, sym, subst, arith, append-nil}
use Rattle.gb_types.specs.declared.message.MsgId.{MsgId}
use Rattle.gb_layer.specs.declared.effects.Up.{Up}
use Rattle.gb_layer.specs.Relay.{State, given, given_ups, relay_if_sends, relayed}
use Rattle.gb_layer.specs.Sinks.{ups_alone}
use Rattle.gb_layer.specs.RelayColumn.{state_of}
use Rattle.gb_layer.proofs.ColumnLemmas.{length-zipped}
use Rattle.gb_layer.proofs.KnowsLemmas.{knows_kept}
use Rattle.gb_layer.proofs.SettleLemmas.{zipped_in_order, one_sends, one_state, one_given, one_up}
use Rattle.gb_layer.proofs.relay.Relay.settle.Goals as goal

pub relay_at-requires-clause-room : goal.relay_at-requires-clause-room
relay_at-requires-clause-room g c =
    let L = g.L.Layer in
    let R = g.R.Rule.rules in
    let ms = c.args.index.now.list.items in
    let self = c.args.self.now in
    let r = state_of L.meaning ms self in
    let i = c.args.i in
    let within = c.requires.within in
    let len = length-zipped ms self.column.items c.requires.known.1.within in
    let lt : i < length r.entries = omega (arith, within, len) in
    let order = zipped_in_order ms self.column.items c.args.index.now.differ in
    let stays = g.met.L.Layer.me_stays in
    let own = g.met.L.Focused.brings_own in
    let s = g.O.Sink.state ms c.args.out.now in
    let xs = relay_if_sends L.next L.gives L.me R r (slice_get r.entries i) in
    let us = given_ups L.me R (relayed L.next L.gives L.me R r) in
    let one = one_sends L.next L.gives L.me R stays own ms r i order lt c.requires.alone in
    g.met.O.Sink.splits.first_sends s xs (ups_alone us) (subst (λ (ys : List MsgId). g.O.Sink.takes s (record { sends = ys; ups = us })) (one ∙ sym (append-nil xs)) c.requires.room)

pub deliver_at-requires-clause-within : goal.deliver_at-requires-clause-within
deliver_at-requires-clause-within g c = (c.relay_at.ensures.known c.requires.known.0 c.requires.known.1).within

pub deliver_at-requires-clause-room : goal.deliver_at-requires-clause-room
deliver_at-requires-clause-room g c =
    let L = g.L.Layer in
    let R = g.R.Rule.rules in
    let ms = c.args.index.now.list.items in
    let self = c.args.self.now in
    let r = state_of L.meaning ms self in
    let i = c.args.i in
    let within = c.requires.within in
    let len = length-zipped ms self.column.items c.requires.known.1.within in
    let lt : i < length r.entries = omega (arith, within, len) in
    let order = zipped_in_order ms self.column.items c.args.index.now.differ in
    let stays = g.met.L.Layer.me_stays in
    let own = g.met.L.Focused.brings_own in
    let next = c.relay_at.new.self in
    let q = state_of L.meaning ms next in
    let more = length-zipped ms next.column.items (c.relay_at.ensures.known c.requires.known.0 c.requires.known.1).within in
    let same = c.relay_at.ensures.len in
    let lt' : i < length q.entries = omega (arith, within, same, more) in
    let s = g.O.Sink.state ms c.args.out.now in
    let t = g.O.Sink.state ms c.relay_at.new.out in
    let xs = relay_if_sends L.next L.gives L.me R r (slice_get r.entries i) in
    let us = given_ups L.me R (relayed L.next L.gives L.me R r) in
    let one = one_sends L.next L.gives L.me R stays own ms r i order lt c.requires.alone in
    let first = g.met.O.Sink.splits.then s xs (ups_alone us) (subst (λ (ys : List MsgId). g.O.Sink.takes s (record { sends = ys; ups = us })) (one ∙ sym (append-nil xs)) c.requires.room) in
    let state = one_state L.next L.gives L.me R stays own ms r i order lt c.requires.alone q c.relay_at.ensures.state lt' c.me.result (c.me.ensures ms) in
    let then = subst (λ (v : State L.State). g.O.Sink.takes (fold g.O.Sink.sent s xs) (ups_alone (given_ups L.me R v))) (sym state) first in
    let here = subst (λ (v : g.O.Sink.State). g.O.Sink.takes v (ups_alone (given_ups L.me R q))) (sym c.relay_at.ensures.out) then in
    subst (λ (vs : List Up). g.O.Sink.takes t (ups_alone vs)) (sym (one_up L.next L.gives L.me R stays own ms r i order lt c.requires.alone q c.relay_at.ensures.state lt' c.me.result (c.me.ensures ms))) here

pub returns-clause-state : goal.returns-clause-state
returns-clause-state g c =
    let L = g.L.Layer in
    let R = g.R.Rule.rules in
    let ms = c.args.index.now.list.items in
    let self = c.args.self.now in
    let r = state_of L.meaning ms self in
    let i = c.args.i in
    let within = c.requires.within in
    let len = length-zipped ms self.column.items c.requires.known.1.within in
    let lt : i < length r.entries = omega (arith, within, len) in
    let order = zipped_in_order ms self.column.items c.args.index.now.differ in
    let stays = g.met.L.Layer.me_stays in
    let own = g.met.L.Focused.brings_own in
    let next = c.relay_at.new.self in
    let q = state_of L.meaning ms next in
    let more = length-zipped ms next.column.items (c.relay_at.ensures.known c.requires.known.0 c.requires.known.1).within in
    let same = c.relay_at.ensures.len in
    let lt' : i < length q.entries = omega (arith, within, same, more) in
    let entries = c.deliver_at.ensures.entries ∙ one_given L.next L.gives L.me R stays own ms r i order lt c.requires.alone q c.relay_at.ensures.state lt' c.me.result (c.me.ensures ms) in
    (λ j. record { lower = q.lower; members = q.members; noticed = q.noticed; entries = entries j })
    ∙ ap (given L.me R) (one_state L.next L.gives L.me R stays own ms r i order lt c.requires.alone q c.relay_at.ensures.state lt' c.me.result (c.me.ensures ms))

pub returns-clause-out : goal.returns-clause-out
returns-clause-out g c =
    let L = g.L.Layer in
    let R = g.R.Rule.rules in
    let ms = c.args.index.now.list.items in
    let self = c.args.self.now in
    let r = state_of L.meaning ms self in
    let i = c.args.i in
    let within = c.requires.within in
    let len = length-zipped ms self.column.items c.requires.known.1.within in
    let lt : i < length r.entries = omega (arith, within, len) in
    let order = zipped_in_order ms self.column.items c.args.index.now.differ in
    let stays = g.met.L.Layer.me_stays in
    let own = g.met.L.Focused.brings_own in
    let next = c.relay_at.new.self in
    let q = state_of L.meaning ms next in
    let more = length-zipped ms next.column.items (c.relay_at.ensures.known c.requires.known.0 c.requires.known.1).within in
    let same = c.relay_at.ensures.len in
    let lt' : i < length q.entries = omega (arith, within, same, more) in
    let s = g.O.Sink.state ms c.args.out.now in
    let t = g.O.Sink.state ms c.relay_at.new.out in
    let out = c.relay_at.ensures.out ∙ ap (fold g.O.Sink.sent s) (sym (one_sends L.next L.gives L.me R stays own ms r i order lt c.requires.alone)) in
    let state = one_state L.next L.gives L.me R stays own ms r i order lt c.requires.alone q c.relay_at.ensures.state lt' c.me.result (c.me.ensures ms) in
    c.deliver_at.ensures.out ∙ (ap (fold g.O.Sink.risen t) (one_up L.next L.gives L.me R stays own ms r i order lt c.requires.alone q c.relay_at.ensures.state lt' c.me.result (c.me.ensures ms)) ∙ (λ j. fold g.O.Sink.risen (out j) (given_ups L.me R (state j))))

pub returns-clause-len : goal.returns-clause-len
returns-clause-len g c =
    let ok = c.relay_at.new.self.column.ok.0 in
    let ok' = c.deliver_at.new.column.ok.0 in
    let len = c.deliver_at.ensures.len in
    let first = c.relay_at.ensures.len in
    omega (arith, ok, ok', len, first)

pub returns-clause-known : goal.returns-clause-known
returns-clause-known g c = λ w k.
    let L = g.L.Layer in
    let ms = c.args.index.now.list.items in
    let next = c.relay_at.new.self in
    let ok = next.column.ok.0 in
    let ok' = c.deliver_at.new.column.ok.0 in
    let len = c.deliver_at.ensures.len in
    let known = c.relay_at.ensures.known w k in
    knows_kept L.knows ms next _ w known (omega (arith, ok, ok', len)) c.deliver_at.ensures.capacity known.lower
