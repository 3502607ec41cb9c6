use Rattle.gb_types.specs.Common.{arith, common_steps, ◌<◌, length, rules}
use Rattle.gb_spelling.proofs.LogTextLemmas.{payload_digits}
use Rattle.gb_spelling.proofs.log_text.write_payload.Goals as goal

pub overflow_add-end : goal.overflow_add-end
overflow_add-end c =
    let some : 0 < length c.args.payload.now = search rules in
    let digits = payload_digits c.args.payload.now some in search (rules, digits.1)

pub slice_bounds-encode_to_slice-end : goal.slice_bounds-encode_to_slice-end
slice_bounds-encode_to_slice-end c =
    let some : 0 < length c.args.payload.now = search rules in
    let digits = payload_digits c.args.payload.now some in search (rules, digits.1)

pub returns-clause-text : goal.returns-clause-text
returns-clause-text c = grind (arith, common_steps)
