-- The nodes that a node has noticed are those that were silent for too long.
use Rattle.gb_types.specs.Common.{◌≡◌, ℕ, ◌≤◌, List, sym}
use Rattle.std.specs.FinSet as set
use Rattle.gb_types.specs.declared.limits.TheConstants.{NODES, SILENCE_MIN}
use Rattle.gb_detect.proofs.ReplayLemmas.{noticed-replay}
use Rattle.gb_node.specs.Common.{Happened, watched, noticed_after}
use Rattle.gb_node.specs.declared.plan.NodePlan.{NodePlan}
use Rattle.gb_isolation.proofs.View.{is_noticed_after}

pub noticed_is_silent : (plan : NodePlan) (past : List Happened) → plan.nodes ≤ NODES → SILENCE_MIN ≤ plan.silence → (b : ℕ) → set.contains (noticed_after plan past) b ≡ is_noticed_after plan past b
noticed_is_silent plan past few least b = noticed-replay plan.me.number plan.nodes plan.silence few least (watched plan.cluster_key past) b

pub silent_is : (plan : NodePlan) (past : List Happened) → plan.nodes ≤ NODES → SILENCE_MIN ≤ plan.silence → is_noticed_after plan past ≡ set.contains (noticed_after plan past)
silent_is plan past few least = λ i b. sym (noticed_is_silent plan past few least b) i
