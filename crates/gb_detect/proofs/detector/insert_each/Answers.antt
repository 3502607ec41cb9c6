use Rattle.gb_types.specs.Common.{◌∙◌, sym}
use Rattle.std.specs.FinSet as set
use Rattle.gb_detect.specs.Watch.{nodes_where}
use Rattle.gb_detect.proofs.SetLemmas.{nodes_where-zero, nodes_where-more, nodes_where-same, insert-union, union-empty}
use Rattle.gb_detect.proofs.detector.insert_each.Goals as goal
use Rattle.gb_detect.proofs.detector.insert_each.Goals.{then-contains, else-contains}

pub loop-number-init : goal.loop-number-init
loop-number-init c = rw (nodes_where-zero, union-empty)

pub loop-number-preserved : goal.loop-number-preserved
loop-number-preserved c =
    let p = set.contains c.args.more.now in
    let i = c.loop-number.number in
    elim c.if-contains.branch [
      | then-contains w ↦
          let more = nodes_where-more p i (sym c.contains.ensures ∙ w.if-contains.true) in
          let joined = insert-union c.args.all.now (nodes_where i p) i in
          cc (more, joined, w.insert.ensures, w.all-is, c.loop-number.invariant)
      | else-contains w ↦
          let more = nodes_where-same p i (sym c.contains.ensures ∙ w.if-contains.false) in
          cc (more, w.all-is, c.loop-number.invariant)
    ]
