use Rattle.gb_types.specs.Common.{arith, length, drop}
use Rattle.gb_host.proofs.GatheringLemmas.{gathered_step}
use Rattle.gb_host.proofs.close.by_number.Goals as goal

pub loop-seat-preserved : goal.loop-seat-preserved
loop-seat-preserved g c =
    let lists = c.loop-seat.lists in
    let given = c.loop-seat.given in
    let put = c.if-not-put_list.false in
    let free = c.put_list.ensures.free put in
    record {
      len = c.loop-seat.invariant.len;
      gathered = gathered_step c.args.seats.items c.loop-seat.rest.items c.pop.new.self.items c.in-Some.seat
          lists.items c.as_mut_slice.result.now c.put_list.new.lists (drop (length c.put_list.new.lists) lists.items)
          given.items c.as_mut_slice-in-Some.result.now c.put_list.new.given (drop (length c.put_list.new.given) given.items) lists.len given.len
          c.loop-seat.invariant.gathered c.in-Some.ensures.items c.as_mut_slice.ensures.value c.as_mut_slice-in-Some.ensures.value
          (c.put_list.ensures.lists put) (c.put_list.ensures.given put) free.0 free.1 (omega (arith, lists.ok.0)) (omega (arith, given.ok.0));
    }
