use Rattle.gb_types.specs.Common.{◌≡◌, ◌∙◌, arith}
use Rattle.gb_types.specs.declared.limits.TheConstants.{NODES}
use Rattle.gb_trace.specs.Kept.{IsNew}
use Rattle.gb_trace.proofs.KeptLemmas.{so_far_none, so_far_on}
use Rattle.gb_trace.proofs.kept.new_nodes.Goals as goal

pub loop-init : goal.loop-init
loop-init c = rw c.new-nodes.ensures.items (so_far_none IsNew)

pub loop-preserved : goal.loop-preserved
loop-preserved c = so_far_on IsNew c.loop.nodes.items c.push.new.self.items c.in_ok-new_node.field-0 c.loop.counter c.in_ok-push.ensures.items c.in_ok-new_node.ensures c.loop.invariant

pub returns : goal.returns
returns c =
    let all : c.loop.counter ≡ NODES = omega arith in
    record { many = c.loop.invariant.many ∙ all; each = λ n d lt. c.loop.invariant.each n d (omega (arith, lt, all)) }
