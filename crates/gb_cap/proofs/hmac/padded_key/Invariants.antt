use Rattle.gb_types.specs.Common.{◌≡◌, ℕ, ◌<◌, ◌≤◌, get_or, bit_xor}
use Rattle.gb_cap.specs.Hmac.{filled}
use Rattle.gb_cap.proofs.hmac.padded_key.Given as goal

abbrev pub invariant-loop-byte : goal.invariant-loop-byte
invariant-loop-byte l = record {
  done : (k : ℕ) → k < l.byte-index → get_or l.byte-items k 0 ≡ bit_xor (get_or (filled l.key) k 0) l.pad;
  left : (k : ℕ) → l.byte-index ≤ k → get_or l.byte-items k 0 ≡ get_or (filled l.key) k 0;
}
