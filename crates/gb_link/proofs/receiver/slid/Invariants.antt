use Rattle.gb_types.specs.Common.{◌≡◌, ◌≤◌, ◌<◌, ◌^◌}
use Rattle.gb_link.specs.Words.{covered}
use Rattle.gb_link.proofs.receiver.slid.Given as goal

abbrev pub invariant-loop-mask : goal.invariant-loop-mask
invariant-loop-mask l = record {
  same : covered l.base l.mask ≡ covered l.fn.base l.fn.mask;
  started : 1 ≤ l.base;
  word : l.mask < 2 ^ 64;
}

abbrev pub decreases-loop-mask : goal.decreases-loop-mask
decreases-loop-mask l = l.mask
