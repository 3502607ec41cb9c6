use Rattle.gb_types.specs.Common.{◌∙◌, sym}
use Rattle.gb_trace.proofs.KeptFrameLemmas.{covers_none, covers_on, covers_not, covers_all}
use Rattle.gb_trace.proofs.frames.cover.Goals as goal
use Rattle.gb_trace.proofs.frames.cover.Goals.{then-covers, else-covers}

pub loop-i-init : goal.loop-i-init
loop-i-init c = covers_none c.args.base c.args.mask c.len-count.result c.args.front c.args.acked.now.items (sym c.args.acked.now.ok.0 ∙ sym c.len-count.ensures) c.requires

pub loop-i-preserved : goal.loop-i-preserved
loop-i-preserved c =
    elim c.if-covers.branch [
      | then-covers w ↦
          rw w.acked-is
          (covers_on c.args.base c.args.mask c.len-count.result c.loop-i.i c.args.acked.now.items c.loop-i.acked.items c.loop-i-test.true (sym c.covers.ensures ∙ w.if-covers.true) c.loop-i.invariant)
      | else-covers w ↦
          rw w.acked-is
          (covers_not c.args.base c.args.mask c.len-count.result c.loop-i.i c.args.acked.now.items c.loop-i.acked.items c.loop-i-test.true (sym c.covers.ensures ∙ w.if-covers.false) c.loop-i.invariant)
    ]

pub returns : goal.returns
returns c = covers_all c.args.base c.args.mask c.len-count.result c.loop-i.i c.args.acked.now.items c.loop-i.acked.items c.loop-i-test.false c.loop-i.invariant
