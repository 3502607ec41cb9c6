use Rattle.gb_types.specs.Common.{ap, sym, ◌∙◌, arith}
use Rattle.hex.specs.Hex.{encode_lower}
use Rattle.gb_spelling.proofs.PayloadLemmas.{encode-in_parts, decode-of_digits}
use Rattle.gb_spelling.proofs.lower_digits.is_spelled.Goals as goal

pub loop-preserved : goal.loop-preserved
loop-preserved c behind =
    let left = c.in-Some.ensures.cases in
    let digits = c.in-Some-split_first_chunk.ensures.cases in
    let block = c.is_block_spelled.ensures c.if-not-is_block_spelled.false in
    c.loop.invariant (encode-in_parts 16 32 c.loop.left.now c.loop.digits.now (ap encode_lower (sym left.0) ∙ (block ∙ digits.0)) (ap encode_lower (sym left.1) ∙ (behind ∙ digits.1)))

pub returns : goal.returns
returns c same = decode-of_digits c.args.bytes.now c.args.word.now (λ i. omega (arith, c.type_inv.bytes i)) (c.loop.invariant (c.is_rest_spelled.ensures same))
