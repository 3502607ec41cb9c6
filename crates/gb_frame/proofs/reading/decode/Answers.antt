use Rattle.gb_types.specs.Common.{sym, ap, ◌∙◌, Ok, arith, limits_are_within}
use Rattle.gb_frame.specs.Reading.{version_read}
use Rattle.gb_frame.proofs.ReadingLemmas.{good, is_text, is_first_fault, text_found, no_fault_found}
use Rattle.gb_frame.proofs.reading.decode.Goals as goal

pub of-requires-clause-long : goal.of-requires-clause-long
of-requires-clause-long c = (good c.args.key.now c.args.bytes.now (sym c.in-None.ensures)).long

pub of-requires-clause-from : goal.of-requires-clause-from
of-requires-clause-from c =
    let within = (good c.args.key.now c.args.bytes.now (sym c.in-None.ensures)).from in
    let most = (limits_are_within (version_read c.args.bytes.now)).nodes in
    omega (arith, within, most)

pub of-requires-clause-to : goal.of-requires-clause-to
of-requires-clause-to c =
    let within = (good c.args.key.now c.args.bytes.now (sym c.in-None.ensures)).to in
    let most = (limits_are_within (version_read c.args.bytes.now)).nodes in
    omega (arith, within, most)

pub of-requires-clause-items : goal.of-requires-clause-items
of-requires-clause-items c = (good c.args.key.now c.args.bytes.now (sym c.in-None.ensures)).parsed

pub returns-in-Some-clause-only : goal.returns-in-Some-clause-only
returns-in-Some-clause-only c = λ d t. absurd (no_fault_found c.args.key.now c.args.bytes.now d c.in-Some.fault t (sym c.in-Some.ensures))

pub returns-in-Some-clause-fault : goal.returns-in-Some-clause-fault
returns-in-Some-clause-fault c = is_first_fault c.args.key.now c.args.bytes.now c.in-Some.fault (λ i. omega (arith, c.type_inv.bytes i)) (sym c.in-Some.ensures)

pub returns-in-None-clause-read : goal.returns-in-None-clause-read
returns-in-None-clause-read c = rw c.of.ensures (is_text c.args.key.now c.args.bytes.now (λ i. omega (arith, c.type_inv.bytes i)) (sym c.in-None.ensures))

pub returns-in-None-clause-only : goal.returns-in-None-clause-only
returns-in-None-clause-only c = λ d t. ap Ok (c.of.ensures ∙ (text_found c.args.key.now c.args.bytes.now d t).1)
