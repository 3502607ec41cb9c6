-- The meaning of tests on numbers.
use Rattle.gb_types.specs.Common.{◌≡◌, ℕ, ◌<◌, ◌≤◌, true, false, nat_eq, nat_lt, arith, nat_tests}

pub lt_true : (a b : ℕ) → nat_lt a b ≡ true → a < b
lt_true a b is = grind (arith, nat_tests)

pub lt_false : (a b : ℕ) → nat_lt a b ≡ false → b ≤ a
lt_false a b is = grind (arith, nat_tests)

pub lt_is : (a b : ℕ) → a < b → nat_lt a b ≡ true
lt_is a b h = grind (arith, nat_tests)

pub lt_not : (a b : ℕ) → b ≤ a → nat_lt a b ≡ false
lt_not a b h = grind (arith, nat_tests)

pub eq_true : (a b : ℕ) → nat_eq a b ≡ true → a ≡ b
eq_true a b is = grind (arith, nat_tests)

pub eq_false : (a b : ℕ) → nat_eq a b ≡ false → a ≡ b → ⊥
eq_false a b is same = grind (arith, nat_tests)

pub eq_less : (a b : ℕ) → a < b → nat_eq a b ≡ false
eq_less a b h = grind (arith, nat_tests)

pub eq_more : (a b : ℕ) → b < a → nat_eq a b ≡ false
eq_more a b h = grind (arith, nat_tests)
