use Rattle.gb_types.specs.Common.{◌≡◌, refl, ap, length, arith, slice_index}
use Rattle.gb_types.specs.declared.limits.TheConstants.{NODES}
use Rattle.gb_slot.proofs.CountedLemmas.{counted_pushed}
use Rattle.gb_slot.proofs.store.count_bytes.Goals as goal

pub returns : goal.returns
returns c =
    let places : length c.args.seen.now ≡ NODES = omega arith in
    let before = ap (slice_index c.args.seen.now) c.index.ensures.value in
    λ entries counted. counted_pushed c.args.seen.now entries _ c.index.result _ places c.index.ensures.value refl (omega (arith, c.requires, before)) counted
