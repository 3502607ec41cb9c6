use Rattle.gb_record_text.proofs.DigitLemmas.{block_written}
use Rattle.gb_record_text.proofs.digits.put_digits.Goals as goal

pub all-preserved : goal.all-preserved
all-preserved c =
    let cases = c.in-Some.ensures.cases in
    block_written 16 _ _ _ c.all.left.now _ _ _ c.in_ok-put_bytes.ensures.ok c.block_digits-digits.ensures cases.0 cases.1 c.all.invariant
