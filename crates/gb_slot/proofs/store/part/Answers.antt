use Rattle.gb_types.specs.Common.{ap, sym, ◌∙◌, arith, slice_index_or, slice_range}
use Rattle.gb_slot.proofs.PlaceLemmas.{inside_at, payload_there}
use Rattle.gb_slot.proofs.store.part.Goals as goal

pub slice_bounds-result-count : goal.slice_bounds-result-count
slice_bounds-result-count c =
    let there = inside_at c.args.bytes.now c.args.kept.now c.args.place c.index-kept-place.result c.requires.inside c.requires.within in
    omega (arith, there.0, c.end_of.ensures)

pub slice_bounds-result-start : goal.slice_bounds-result-start
slice_bounds-result-start c =
    let there = inside_at c.args.bytes.now c.args.kept.now c.args.place c.index-kept-place.result c.requires.inside c.requires.within in
    omega (arith, there.0, there.1)

pub slice_bounds-result-end : goal.slice_bounds-result-end
slice_bounds-result-end c =
    let there = inside_at c.args.bytes.now c.args.kept.now c.args.place c.index-kept-place.result c.requires.inside c.requires.within in
    omega (arith, there.0, there.1, c.end_of.ensures)

pub returns : goal.returns
returns c = λ ms len differ.
    let kept = c.args.kept.now in
    let bytes = c.args.bytes.now in
    ap (slice_range bytes (slice_index_or kept c.args.place c.index-kept-place.result).start) c.end_of.ensures
    ∙ sym (payload_there bytes ms kept c.args.place c.index-kept-place.result differ len c.requires.within)
