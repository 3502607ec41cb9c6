use Rattle.gb_types.specs.Common.{◌≡◌, ◌++◌, length}
use Rattle.hex.specs.Hex.{encode_lower}
use Rattle.gb_record_text.proofs.digits.put_digits.Given as goal

abbrev pub invariant-all : goal.invariant-all
invariant-all l = l.out.items ++ encode_lower l.left ≡ l.fn.out.items ++ encode_lower l.bytes

abbrev pub decreases-all : goal.decreases-all
decreases-all l = length l.left
