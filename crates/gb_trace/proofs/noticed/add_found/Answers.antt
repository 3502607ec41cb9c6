use Rattle.gb_types.specs.Common.{◌≡◌, ◌∙◌, ap, arith, ◌++◌}
use Rattle.std.specs.FinSet as set
use Rattle.gb_types.specs.declared.limits.TheConstants.{NODES}
use Rattle.gb_trace.proofs.NoticesLemmas.{noticed_none, noticed_more, notices_below}
use Rattle.gb_trace.proofs.noticed.add_found.Goals as goal

pub loop-b-init : goal.loop-b-init
loop-b-init c = noticed_none c.args.a c.args.spec.now (set.contains c.args.found.now) c.args.steps.now.items

pub loop-b-preserved : goal.loop-b-preserved
loop-b-preserved c =
    noticed_more c.args.a c.new-other.result c.args.spec.now (set.contains c.args.found.now) c.loop-b.b c.contains.result c.args.steps.now.items c.loop-b.steps.items c.add_notice.new.steps.items c.new-other.ensures c.contains.ensures c.in_ok-add_notice.ensures c.loop-b.invariant

pub returns : goal.returns
returns c =
    let all : c.loop-b.b ≡ NODES = omega arith in
    c.loop-b.invariant ∙ ap (λ n. c.args.steps.now.items ++ notices_below c.args.a c.args.spec.now (set.contains c.args.found.now) n) all
