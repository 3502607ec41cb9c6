use Rattle.gb_types.specs.Common.{◌≡◌, ◌+◌, ◌<◌, ◌≤◌, ◌++◌, ◌∙◌, length, get_or, ap, arith, take_all}
use Rattle.gb_node.specs.Common.{node_numbered}
use Rattle.gb_trace.specs.Counts.{counts_acknowledged, is_newly}
use Rattle.gb_trace.proofs.CountLemmas.{counted_on_marked, front_counted, get_or_default, place_on}
use Rattle.gb_trace.proofs.carried.add_all_acknowledged.Goals as goal

pub loop-i-init : goal.loop-i-init
loop-i-init c =
    let f = c.args.frames.now in
    let first = c.in-Some.ensures.1 in
    let before = c.before-2.ensures in (
      front_counted c.args.a (node_numbered c.args.packet.now.from) c.args.packet.now f.acked.items f.counts.items f.front c.args.steps.now.items c.requires.front,
      omega (arith, first, before),
    )

pub loop-i-preserved : goal.loop-i-preserved
loop-i-preserved c =
    let f = c.args.frames.now in
    let i = c.loop-i.i in
    let k = c.index-count.result.now in
    let lt : i < length f.counts.items = omega (arith, c.loop-i-test.true, c.len-i-end.ensures, f.counts.ok.0) in
    let ls : i < length f.acked.items = omega (arith, lt, c.requires.many) in
    let number : k ≡ get_or f.counts.items i 0 = c.index-count.ensures ∙ get_or_default f.counts.items i k 0 lt in (
      counted_on_marked c.args.a (node_numbered c.args.packet.now.from) c.args.packet.now f.acked.items f.counts.items i c.loop-i.place c.args.steps.now.items c.loop-i.steps.items c.add_new.new.steps.items c.index.result.now k lt ls c.index.ensures number
          c.loop-i.invariant.1 c.in_ok-add_new.ensures c.loop-i.invariant.0,
      place_on f.counts.items i c.loop-i.place c.in-Some-checked_add.next lt c.loop-i.invariant.1 (c.in-Some-checked_add.ensures.1 ∙ ap (λ n. c.loop-i.place + n) number),
    )

pub returns : goal.returns
returns c =
    let f = c.args.frames.now in
    let all : length f.counts.items ≤ c.loop-i.i = omega (arith, c.loop-i-test.false, c.len-i-end.ensures, f.counts.ok.0) in
    c.loop-i.invariant.0
    ∙ ap (λ ks. c.args.steps.now.items ++ counts_acknowledged c.args.a (node_numbered c.args.packet.now.from) (is_newly c.args.packet.now f.acked.items) 1 0 ks) (take_all c.loop-i.i f.counts.items all)
