use Rattle.gb_types.specs.Common.{subst, Some, arith}
use Rattle.gb_schedule.specs.Numbers.{IsNumberAt}
use Rattle.gb_schedule.proofs.StepLemmas.{beyond_two}
use Rattle.gb_schedule.proofs.grammar.two_nodes.Goals as goal

pub returns-then-node-count-clause-none : goal.returns-then-node-count-clause-none
returns-then-node-count-clause-none c =
    let text = c.args.text.now in
    let one : IsNumberAt text 0 c.in_ok-node.node (Some c.in_ok-rest.field-0) = subst (IsNumberAt text 0 c.in_ok-node.node) c.in_ok-rest.was c.in_ok-node.ensures.some in
    beyond_two c.args.nodes (omega (arith, c.requires)) text _ _ _ (omega arith) (omega arith) one c.in_ok-to.ensures.some (λ below to_below. omega (arith, c.from-count.ensures, c.then-node-count.either, below, to_below))
