use Rattle.gb_types.specs.Common.{◌≤◌, ◌+◌, arith}
use Rattle.gb_types.specs.declared.limits.TheConstants.{NODES}
use Rattle.gb_stack.proofs.StartLemmas.{heard_none, heard_more}
use Rattle.gb_stack.proofs.stack.hear.Goals as goal

pub loop-i-init : goal.loop-i-init
loop-i-init g c =
    let L = g.L.Layer in
    record {
      within = omega arith;
      heard = heard_none L.next c.args.me c.args.members.now c.args.noticed.now (L.meaning c.args.index.now.list.items c.args.layer.now);
      known = c.requires;
    }

pub loop-i-preserved : goal.loop-i-preserved
loop-i-preserved g c =
    let L = g.L.Layer in
    let ms = c.args.index.now.list.items in
    let i = c.loop-i.i in
    let below : i + 1 ≤ NODES = omega (arith, c.loop-i-test.true) in
    record {
      within = below;
      heard = heard_more L.next c.args.me c.args.members.now c.args.noticed.now i (L.meaning ms c.args.layer.now) (L.meaning ms c.loop-i.layer) (L.meaning ms c.hear_of.new.layer) c.new-node.result c.new-node.ensures c.loop-i.invariant.heard c.hear_of.ensures.meaning;
      known = c.hear_of.ensures.known;
    }
