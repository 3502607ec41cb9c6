-- The bits of two words together.
use Rattle.std.proofs.Common.{◌≡◌, ℕ, ◌<◌, ◌||◌, ◌&&◌, max, nat_eq, nat_lt, bit_or, sym, ap, ◌∙◌, arith}
use Rattle.std.specs.{Int.bit_at, Cmp.nat_cmp_total, FinSet.nat_cmp-IsAntisymmetric}
use Rattle.std.specs.FinSet as fin
use Rattle.std.proofs.{lemmas.Bool.Decides.nat_tests, lemmas.Nat.Bits.bit_at_or, lemmas.Nat.Bits.bit_at-lt}
use Rattle.gb_types.specs.declared.limits.TheConstants.{NODES}
use Rattle.gb_types.specs.Places.{of_bits}
use Rattle.gb_types.proofs.PlaceLemmas.{contains-of_bits}

in_either : (q x y : ℕ) → x < 2 → y < 2 → (nat_lt q NODES && nat_eq (max x y) 1) ≡ ((nat_lt q NODES && nat_eq x 1) || (nat_lt q NODES && nat_eq y 1))
in_either q x y xs ys = grind (arith, nat_tests)

pub of_bits-union : (a b : ℕ) → of_bits (bit_or a b) ≡ fin.union (of_bits a) (of_bits b)
of_bits-union a b =
    fin.same_set nat_cmp_total nat_cmp-IsAntisymmetric _ _
    (λ q.
    contains-of_bits (bit_or a b) q
    ∙ (ap (λ d. nat_lt q NODES && nat_eq d 1) (bit_at_or a b q)
    ∙ (in_either q (bit_at a q) (bit_at b q) (bit_at-lt a q) (bit_at-lt b q)
    ∙ ((λ i. sym (contains-of_bits a q) i || sym (contains-of_bits b q) i) ∙ sym (fin.contains-union nat_cmp_total (of_bits a) (of_bits b) q)))))
