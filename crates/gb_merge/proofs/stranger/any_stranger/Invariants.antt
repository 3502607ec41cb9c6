use Rattle.gb_types.specs.Common.{◌<◌, ℕ}
use Rattle.gb_node.specs.Common.{node_numbered}
use Rattle.gb_merge.specs.Interleaving.{tape_of}
use Rattle.gb_merge.specs.Woven.{HasStranger}
use Rattle.gb_merge.proofs.stranger.any_stranger.Given as goal

abbrev pub invariant-loop-i : goal.invariant-loop-i
invariant-loop-i l = (b : ℕ) → b < l.i → HasStranger l.reader (node_numbered b) l.sent (tape_of l.tapes b) → ⊥
