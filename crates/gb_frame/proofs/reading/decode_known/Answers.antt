use Rattle.gb_types.specs.Common.{ap, sym, ◌∙◌, Ok, arith, limits_are_within}
use Rattle.gb_frame.specs.Reading.{version_read}
use Rattle.gb_frame.proofs.ReadingLemmas.{good, nothing_wrong, read_whole}
use Rattle.gb_frame.proofs.reading.decode_known.Goals as goal

pub of-requires-clause-long : goal.of-requires-clause-long
of-requires-clause-long c = (good c.args.key.now c.args.bytes.now (nothing_wrong c.args.key.now c.args.bytes.now c.requires)).long

pub of-requires-clause-from : goal.of-requires-clause-from
of-requires-clause-from c =
    let within = (good c.args.key.now c.args.bytes.now (nothing_wrong c.args.key.now c.args.bytes.now c.requires)).from in
    let most = (limits_are_within (version_read c.args.bytes.now)).nodes in
    omega (arith, within, most)

pub of-requires-clause-to : goal.of-requires-clause-to
of-requires-clause-to c =
    let within = (good c.args.key.now c.args.bytes.now (nothing_wrong c.args.key.now c.args.bytes.now c.requires)).to in
    let most = (limits_are_within (version_read c.args.bytes.now)).nodes in
    omega (arith, within, most)

pub of-requires-clause-items : goal.of-requires-clause-items
of-requires-clause-items c = (good c.args.key.now c.args.bytes.now (nothing_wrong c.args.key.now c.args.bytes.now c.requires)).parsed

pub returns : goal.returns
returns c = read_whole c.args.key.now c.args.bytes.now c.requires ∙ ap Ok (sym c.of.ensures)
