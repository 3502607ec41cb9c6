use Rattle.gb_types.specs.Common.{◌∙◌, List, map, filter, fold, ap, sym, subst, arith, append-nil}
use Rattle.gb_types.specs.declared.{message.MsgId.MsgId, node.NodeId.NodeId}
use Rattle.gb_layer.specs.Relay.{State, due_to_deliver, handed, up_of, given, given_ups, relayed, relayed_sends}
use Rattle.gb_layer.specs.Sinks.{ups_alone}
use Rattle.gb_layer.specs.Column.{zipped}
use Rattle.gb_layer.specs.RelayColumn.{state_of}
use Rattle.gb_layer.proofs.KnowsLemmas.{knows_kept}
use Rattle.gb_layer.proofs.relay.Relay.settle_all.Goals as goal

pub relay_all-requires-clause-room : goal.relay_all-requires-clause-room
relay_all-requires-clause-room g c =
    let L = g.L.Layer in
    let R = g.R.Rule.rules in
    let ms = c.args.index.now.list.items in
    let r = state_of L.meaning ms c.args.self.now in
    let s = g.O.Sink.state ms c.args.out.now in
    let xs = relayed_sends L.next L.gives L.me R r in
    let us = given_ups L.me R (relayed L.next L.gives L.me R r) in
    g.met.O.Sink.splits.first_sends s xs (ups_alone us) (subst (λ (ys : List MsgId). g.O.Sink.takes s (record { sends = ys; ups = us })) (sym (append-nil xs)) c.requires.room)

pub deliver_all-requires-clause-within : goal.deliver_all-requires-clause-within
deliver_all-requires-clause-within g c = (c.relay_all.ensures.known c.requires.known.0 c.requires.known.1).within

pub deliver_all-requires-clause-room : goal.deliver_all-requires-clause-room
deliver_all-requires-clause-room g c =
    let L = g.L.Layer in
    let R = g.R.Rule.rules in
    let ms = c.args.index.now.list.items in
    let r = state_of L.meaning ms c.args.self.now in
    let next = c.relay_all.new.self in
    let s = g.O.Sink.state ms c.args.out.now in
    let xs = relayed_sends L.next L.gives L.me R r in
    let us = given_ups L.me R (relayed L.next L.gives L.me R r) in
    let first = g.met.O.Sink.splits.then s xs (ups_alone us) (subst (λ (ys : List MsgId). g.O.Sink.takes s (record { sends = ys; ups = us })) (sym (append-nil xs)) c.requires.room) in
    let then = subst (λ (q : State L.State). g.O.Sink.takes (fold g.O.Sink.sent s xs) (ups_alone (given_ups L.me R q))) (sym c.relay_all.ensures.state) first in
    let here = subst (λ (t : g.O.Sink.State). g.O.Sink.takes t (ups_alone (given_ups L.me R (state_of L.meaning ms next)))) (sym c.relay_all.ensures.out) then in
    subst (λ (n : NodeId). g.O.Sink.takes (g.O.Sink.state ms c.relay_all.new.out) (ups_alone (map up_of (filter (due_to_deliver R n next.members next.noticed) (zipped ms next.column.items))))) (sym (c.me.ensures ms)) here

pub returns-clause-state : goal.returns-clause-state
returns-clause-state g c =
    let L = g.L.Layer in
    let R = g.R.Rule.rules in
    let ms = c.args.index.now.list.items in
    let next = c.relay_all.new.self in
    let entries = c.deliver_all.ensures.entries ∙ ap (λ (n : NodeId). map (handed (due_to_deliver R n next.members next.noticed)) (zipped ms next.column.items)) (c.me.ensures ms) in
    (λ j. record { lower = L.meaning ms next.lower; members = next.members; noticed = next.noticed; entries = entries j }) ∙ ap (given L.me R) c.relay_all.ensures.state

pub returns-clause-out : goal.returns-clause-out
returns-clause-out g c =
    let L = g.L.Layer in
    let R = g.R.Rule.rules in
    let ms = c.args.index.now.list.items in
    let r = state_of L.meaning ms c.args.self.now in
    let next = c.relay_all.new.self in
    let s = g.O.Sink.state ms c.args.out.now in
    let xs = relayed_sends L.next L.gives L.me R r in
    c.deliver_all.ensures.out
    ∙ ((λ j. fold g.O.Sink.risen (c.relay_all.ensures.out j) (map up_of (filter (due_to_deliver R (c.me.ensures ms j) next.members next.noticed) (zipped ms next.column.items))))
    ∙ ap (λ (q : State L.State). fold g.O.Sink.risen (fold g.O.Sink.sent s xs) (given_ups L.me R q)) c.relay_all.ensures.state)

pub returns-clause-len : goal.returns-clause-len
returns-clause-len g c =
    let ok = c.relay_all.new.self.column.ok.0 in
    let ok' = c.deliver_all.new.column.ok.0 in
    let len = c.deliver_all.ensures.len in
    let first = c.relay_all.ensures.len in
    omega (arith, ok, ok', len, first)

pub returns-clause-known : goal.returns-clause-known
returns-clause-known g c = λ w k.
    let L = g.L.Layer in
    let ms = c.args.index.now.list.items in
    let next = c.relay_all.new.self in
    let ok = next.column.ok.0 in
    let ok' = c.deliver_all.new.column.ok.0 in
    let len = c.deliver_all.ensures.len in
    let known = c.relay_all.ensures.known w k in
    knows_kept L.knows ms next _ w known (omega (arith, ok, ok', len)) c.deliver_all.ensures.capacity known.lower
