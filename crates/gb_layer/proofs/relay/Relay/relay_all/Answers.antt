use Rattle.gb_types.specs.Common.{◌≡◌, ℕ, ◌+◌, ◌-◌, ◌∙◌, fold, slice_get, length, refl, ap, sym, subst, arith, suc, fold-append}
use Rattle.gb_layer.specs.Relay.{State, relay_if, relay_if_sends, relay_from, relay_from_sends}
use Rattle.gb_layer.specs.Sinks.{sends_alone}
use Rattle.gb_layer.specs.RelayColumn.{state_of}
use Rattle.gb_layer.proofs.ColumnLemmas.{length-zipped}
use Rattle.gb_layer.proofs.relay.Relay.relay_all.Goals as goal

pub loop-i-init : goal.loop-i-init
loop-i-init g c =
    let L = g.L.Layer in
    let R = g.R.Rule.rules in
    let ms = c.args.index.now.list.items in
    let self = c.args.self.now in
    let r = state_of L.meaning ms self in
    let s = g.O.Sink.state ms c.args.out.now in
    let n = c.len-count.result in
    let k = c.requires.known.1 in
    let ok = self.column.ok.0 in
    let len = c.len-count.ensures in
    let count : n ≡ length self.column.items = omega (arith, ok, len) in
    let all : length r.entries ≡ n = (let a = length-zipped ms self.column.items k.within in omega (arith, a, count)) in
    let z : n - 0 ≡ n = omega arith in
    record {
      count = count;
      len = refl;
      state = ap (λ (v : ℕ). relay_from L.next L.gives L.me R v 0 r) z;
      out = ap (λ (v : ℕ). fold g.O.Sink.sent s (relay_from_sends L.next L.gives L.me R v 0 r)) z;
      room = subst (λ (v : ℕ). g.O.Sink.takes s (sends_alone (relay_from_sends L.next L.gives L.me R v 0 r))) (all ∙ sym z) c.requires.room;
      known = λ w h. h;
    }

pub relay_at-requires-clause-within : goal.relay_at-requires-clause-within
relay_at-requires-clause-within g c =
    let count = c.loop-i.invariant.count in
    let len = c.loop-i.invariant.len in
    let test = c.loop-i-test.true in
    omega (arith, count, len, test)

pub relay_at-requires-clause-known : goal.relay_at-requires-clause-known
relay_at-requires-clause-known g c = (c.requires.known.0, c.loop-i.invariant.known c.requires.known.0 c.requires.known.1)

pub relay_at-requires-clause-room : goal.relay_at-requires-clause-room
relay_at-requires-clause-room g c =
    let L = g.L.Layer in
    let R = g.R.Rule.rules in
    let ms = c.args.index.now.list.items in
    let r = state_of L.meaning ms c.loop-i.self in
    let s = g.O.Sink.state ms c.loop-i.out in
    let i = c.loop-i.i in
    let k = c.len-count.result - (i + 1) in
    let test = c.loop-i-test.true in
    let e : c.len-count.result - i ≡ suc k = omega (arith, test) in
    let here = relay_if_sends L.next L.gives L.me R r (slice_get r.entries i) in
    let rest = relay_from_sends L.next L.gives L.me R k (i + 1) (relay_if L.next L.gives L.me R r (slice_get r.entries i)) in
    g.met.O.Sink.splits.first_sends s here (sends_alone rest) (subst (λ (n : ℕ). g.O.Sink.takes s (sends_alone (relay_from_sends L.next L.gives L.me R n i r))) e c.loop-i.invariant.room)

pub loop-i-preserved : goal.loop-i-preserved
loop-i-preserved g c =
    let L = g.L.Layer in
    let R = g.R.Rule.rules in
    let ms = c.args.index.now.list.items in
    let from = relay_from L.next L.gives L.me R in
    let sends = relay_from_sends L.next L.gives L.me R in
    let r = state_of L.meaning ms c.loop-i.self in
    let r' = state_of L.meaning ms c.relay_at.new.self in
    let s = g.O.Sink.state ms c.loop-i.out in
    let i = c.loop-i.i in
    let k = c.len-count.result - (i + 1) in
    let test = c.loop-i-test.true in
    let e : c.len-count.result - i ≡ suc k = omega (arith, test) in
    let then = relay_if L.next L.gives L.me R r (slice_get r.entries i) in
    let here = relay_if_sends L.next L.gives L.me R r (slice_get r.entries i) in
    let rest = sends k (i + 1) then in
    let kept = c.relay_at.ensures in
    let was = c.loop-i.invariant in
    let room = g.met.O.Sink.splits.then s here (sends_alone rest) (subst (λ (n : ℕ). g.O.Sink.takes s (sends_alone (sends n i r))) e was.room) in
    record {
      count = was.count;
      len = kept.len ∙ was.len;
      state = ap (from k (i + 1)) kept.state ∙ (sym (ap (λ (n : ℕ). from n i r) e) ∙ was.state);
      out = (λ j. fold g.O.Sink.sent (kept.out j) (sends k (i + 1) (kept.state j)))
          ∙ (sym (fold-append g.O.Sink.sent s here rest) ∙ (sym (ap (λ (n : ℕ). fold g.O.Sink.sent s (sends n i r)) e) ∙ was.out));
      room = subst (λ (t : g.O.Sink.State). g.O.Sink.takes t (sends_alone (sends k (i + 1) r'))) (sym kept.out)
          (subst (λ (q : State L.State). g.O.Sink.takes (fold g.O.Sink.sent s here) (sends_alone (sends k (i + 1) q))) (sym kept.state) room);
      known = λ w h. kept.known w (was.known w h);
    }

pub returns-clause-state : goal.returns-clause-state
returns-clause-state g c =
    let L = g.L.Layer in
    let from = relay_from L.next L.gives L.me g.R.Rule.rules in
    let ms = c.args.index.now.list.items in
    let self = c.args.self.now in
    let r = state_of L.meaning ms c.loop-i.self in
    let r0 = state_of L.meaning ms self in
    let i = c.loop-i.i in
    let test = c.loop-i-test.false in
    let z : c.len-count.result - i ≡ 0 = omega (arith, test) in
    let count = c.loop-i.invariant.count in
    let all : c.len-count.result ≡ length r0.entries = (let a = length-zipped ms self.column.items c.requires.known.1.within in omega (arith, a, count)) in
    sym (ap (λ (n : ℕ). from n i r) z) ∙ (c.loop-i.invariant.state ∙ ap (λ (n : ℕ). from n 0 r0) all)

pub returns-clause-out : goal.returns-clause-out
returns-clause-out g c =
    let L = g.L.Layer in
    let sends = relay_from_sends L.next L.gives L.me g.R.Rule.rules in
    let ms = c.args.index.now.list.items in
    let self = c.args.self.now in
    let r = state_of L.meaning ms c.loop-i.self in
    let r0 = state_of L.meaning ms self in
    let s = g.O.Sink.state ms c.loop-i.out in
    let s0 = g.O.Sink.state ms c.args.out.now in
    let i = c.loop-i.i in
    let test = c.loop-i-test.false in
    let z : c.len-count.result - i ≡ 0 = omega (arith, test) in
    let count = c.loop-i.invariant.count in
    let all : c.len-count.result ≡ length r0.entries = (let a = length-zipped ms self.column.items c.requires.known.1.within in omega (arith, a, count)) in
    sym (ap (λ (n : ℕ). fold g.O.Sink.sent s (sends n i r)) z) ∙ (c.loop-i.invariant.out ∙ ap (λ (n : ℕ). fold g.O.Sink.sent s0 (sends n 0 r0)) all)
