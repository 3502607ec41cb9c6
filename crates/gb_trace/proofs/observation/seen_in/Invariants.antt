use Rattle.gb_types.specs.Common.{◌≡◌, map, reverse}
use Rattle.gb_alone.specs.Common.{numbers_below}
use Rattle.gb_node.specs.Common.{node_numbered}
use Rattle.gb_trace.specs.Observed.{observed_at}
use Rattle.gb_trace.proofs.observation.seen_in.Given as goal

abbrev pub invariant-loop-a : goal.invariant-loop-a
invariant-loop-a l = l.seen.items ≡ map (λ a. observed_at l.plan l.addr (reverse l.node_steps) (node_numbered a)) (numbers_below l.a)
