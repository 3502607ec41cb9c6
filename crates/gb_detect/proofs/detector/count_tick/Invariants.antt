use Rattle.gb_types.specs.Common.{◌≡◌, ℕ, ◌+◌, ◌<◌, ◌≤◌, min, get_or, length}
use Rattle.gb_detect.proofs.detector.count_tick.Given as goal

abbrev pub invariant-loop-ticks : goal.invariant-loop-ticks
invariant-loop-ticks l = record {
  places : length l.silences ≡ length l.fn.silences;
  done : (k : ℕ) → k < l.ticks-index → get_or l.silences k 0 ≡ min (get_or l.fn.silences k 0 + 1) l.silence;
  left : (k : ℕ) → l.ticks-index ≤ k → get_or l.silences k 0 ≡ get_or l.fn.silences k 0;
}
