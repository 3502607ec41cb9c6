-- A mask of 64 bits covers no number from base + 64 on.
use Rattle.gb_types.specs.Common.{◌≡◌, ℕ, ◌-◌, ◌<◌, ◌≤◌, ◌^◌, false, arith, bit_at, nat_tests}
use Rattle.std.proofs.lemmas.Nat.Bits.{bit_at_above}
use Rattle.gb_link.specs.Ack.{covers}

pub not_covered_beyond : (base mask n : ℕ) → base ≤ n → 64 ≤ n - base → mask < 2 ^ 64 → covers base mask n ≡ false
not_covered_beyond base mask n from beyond word =
    let clear : bit_at mask (n - base) ≡ 0 = bit_at_above mask 64 (n - base) word beyond in
    grind (arith, nat_tests, clear)
