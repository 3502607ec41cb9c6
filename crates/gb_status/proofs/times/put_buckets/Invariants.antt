use Rattle.gb_types.specs.Common.{◌≡◌, ◌++◌, take}
use Rattle.gb_status.specs.Times.{bucket_lines}
use Rattle.gb_status.proofs.times.put_buckets.Given as goal

-- the buckets so far are written
abbrev pub invariant-loop-bucket : goal.invariant-loop-bucket
invariant-loop-bucket l = l.out.items ≡ l.fn.out.items ++ bucket_lines l.measured l.node (take l.bucket-index l.buckets)
