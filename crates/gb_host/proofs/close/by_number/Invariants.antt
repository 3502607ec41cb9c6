use Rattle.gb_types.specs.Common.{◌≡◌, vec_len}
use Rattle.gb_host.specs.Closing.{Gathered}
use Rattle.gb_host.proofs.close.by_number.Given as goal

abbrev pub invariant-loop-seat : goal.invariant-loop-seat
invariant-loop-seat g l = record {
  len : vec_len l.lists ≡ l.count;
  gathered : Gathered l.fn.seats.items l.rest.items l.lists.items l.given.items;
}

abbrev pub decreases-loop-seat : goal.decreases-loop-seat
decreases-loop-seat g l = vec_len l.rest
