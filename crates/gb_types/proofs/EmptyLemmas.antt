-- Only the word without a bit represents the empty set.
use Rattle.std.proofs.Common.{◌≡◌, ◌↔◌, ℕ, ◌<◌, ◌^◌, nat_eq, sym, ap, ◌∙◌}
use Rattle.std.specs.{Int.bit_at, Bool.IsTrue, Ordering.nat_cmp}
use Rattle.std.specs.FinSet as fin
use Rattle.std.proofs.{lemmas.Bool.eqb-true, lemmas.Bool.eq-eqb, lemmas.Nat.Bits.same_from_bits, lemmas.Nat.Bits.bit_at-zero, lemmas.Nat.Bits.bit_at-lt}
use Rattle.gb_types.specs.Places.{of_bits}
use Rattle.gb_types.proofs.PlaceLemmas.{at_bit, of_bits-none, zero_bit}

pub is_empty : (bits : ℕ) → bits < 2 ^ 32 → IsTrue (nat_eq bits 0) ↔ (of_bits bits ≡ fin.empty)
is_empty bits fits = (
  λ e. ap of_bits (eqb-true bits 0 e) ∙ of_bits-none,
  λ e.
      eq-eqb bits 0
      (same_from_bits bits 0
      (λ i. zero_bit (bit_at bits i) (bit_at-lt bits i) (sym (at_bit bits i fits) ∙ (ap (λ s. fin.contains s i) e ∙ fin.contains-empty nat_cmp i)) ∙ sym (bit_at-zero i))),
)
