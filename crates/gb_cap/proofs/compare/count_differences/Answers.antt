use Rattle.gb_types.specs.Common.{arith, ◌+◌, take, zip, count_by, ap, ◌∙◌, take_all, length-take, count_by-le-length}
use Rattle.std.proofs.lemmas.Slice.Zip.{length-zip}
use Rattle.gb_cap.specs.Compare.{are_unlike}
use Rattle.gb_cap.proofs.DifferenceLemmas.{count_more, counts_same}
use Rattle.gb_cap.proofs.compare.count_differences.Goals as goal

pub loop-i-preserved : goal.loop-i-preserved
loop-i-preserved c =
    let more = count_more c.args.first.now c.args.second.now c.loop-i.i c.loop-i.count c.requires (omega arith) c.loop-i.invariant.0 in
    let few = count_by-le-length are_unlike (take (c.loop-i.i + 1) (zip c.args.first.now c.args.second.now)) in
    let short = length-take (c.loop-i.i + 1) (zip c.args.first.now c.args.second.now) in
    let now = ap (λ n. c.loop-i.count + n) c.from-count.ensures ∙ more in
    (now, omega (arith, now, few, short))

pub returns-clause-count : goal.returns-clause-count
returns-clause-count c =
    let beside = length-zip c.args.first.now c.args.second.now in
    c.loop-i.invariant.0 ∙ ap (count_by are_unlike) (take_all c.loop-i.i (zip c.args.first.now c.args.second.now) (omega (arith, beside, c.requires, c.loop-i-test.false)))

pub returns-clause-same : goal.returns-clause-same
returns-clause-same c = counts_same c.args.first.now c.args.second.now c.loop-i.count c.requires (returns-clause-count c)
