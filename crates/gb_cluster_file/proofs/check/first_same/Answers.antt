use Rattle.gb_types.specs.Common.{◌<◌, length, arith}
use Rattle.toml.specs.View.{view}
use Rattle.gb_cluster_file.proofs.ViewLemmas.{item_at, none_more}
use Rattle.gb_cluster_file.proofs.check.first_same.Goals as goal

pub returns-then-is_same-clause-some : goal.returns-then-is_same-clause-some
returns-then-is_same-clause-some c =
    let below : c.loop-first.first < c.args.node = omega arith in
    let lt : c.loop-first.first < length c.args.values.now = omega arith in
    (below, (view c.index-values-first.result, item_at c.args.values.now c.loop-first.first c.index-values-first.result lt c.index-values-first.is, c.is_same.ensures.yes c.if-is_same.true))

pub loop-first-preserved : goal.loop-first-preserved
loop-first-preserved c =
    let lt : c.loop-first.first < length c.args.values.now = omega arith in
    none_more c.args.values.now c.args.field (view c.args.last.now) c.loop-first.first c.index-values-first.result lt c.index-values-first.is (c.is_same.ensures.no c.if-is_same.false) c.loop-first.invariant

pub returns-clause-none : goal.returns-clause-none
returns-clause-none c = λ first one below at same. c.loop-first.invariant first one (omega arith) at same
