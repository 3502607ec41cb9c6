use Rattle.gb_types.specs.Common.{◌*◌, ◌+◌, ℕ, arith, slice_index, ap, ◌∙◌, length-set}
use Rattle.std.proofs.lemmas.Nat.{and_mask}
use Rattle.hex.specs.Hex.{lower_digits}
use Rattle.hex.proofs.Pairs.{encode_step, encode_done}
use Rattle.gb_record_text.proofs.digits.block_digits.Goals as goal

pub bytes-preserved : goal.bytes-preserved
bytes-preserved c =
    let byte : ℕ = slice_index c.args.bytes.now c.bytes.i in
    let len = c.bytes.invariant.0 in (
      length-set _ _ _ ∙ (length-set _ _ _ ∙ len),
      encode_step lower_digits c.args.bytes.now c.bytes.digits c.bytes.i _ _ (omega arith) (omega (arith, len)) c.digit_of.ensures (c.digit_of-in-bytes.ensures ∙ ap (λ (k : ℕ). slice_index lower_digits k) (and_mask byte 4)) c.bytes.invariant.1,
    )

pub returns : goal.returns
returns c =
    let len = c.bytes.invariant.0 in
    encode_done lower_digits _ _ c.bytes.i (omega arith) (omega (arith, len)) c.bytes.invariant.1
