-- Sets that contain each other.
use Rattle.gb_types.specs.Common.{◌≡◌, true, sym, ap, ◌∙◌, nat_cmp}
use Rattle.std.specs.FinSet as set
use Rattle.std.specs.Cmp.{nat_cmp_total}
use Rattle.gb_types.proofs.BoolLemmas.{both_ways}

pub one_set : (s t : set.FinSet nat_cmp) → set.is_subset s t ≡ true → set.is_subset t s ≡ true → s ≡ t
one_set s t there back = set.same_set nat_cmp_total set.nat_cmp-IsAntisymmetric s t (λ q. both_ways (set.contains s q) (set.contains t q) (set.is_subset-contains nat_cmp_total s t there q) (set.is_subset-contains nat_cmp_total t s back q))

pub within_itself : (s t : set.FinSet nat_cmp) → s ≡ t → set.is_subset s t ≡ true
within_itself s t same = ap (set.is_subset s) (sym same) ∙ set.contains-is_subset nat_cmp_total s s (λ q h. h)
