use Rattle.gb_types.specs.Common.{take, ◌≡◌}
use Rattle.gb_merge.specs.Faults.{all_sent}
use Rattle.gb_merge.proofs.stranger.all_sent.Given as goal

abbrev pub invariant-loop-tape : goal.invariant-loop-tape
invariant-loop-tape l = l.sent ≡ all_sent (take l.tape-index l.tapes)
