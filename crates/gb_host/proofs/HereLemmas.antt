-- All nodes with numbers below a number.
use Rattle.gb_types.specs.Common.{◌≡◌, ◌≢◌, ◌⊎◌, ◌∙◌, ℕ, ◌+◌, ◌<◌, ◌||◌, Bool, true, false, nat_eq, ap, arith, inl, inr, refl, sym, true≢false, eq-eqb, eqb_tells, nat_cmp}
use Rattle.std.specs.FinSet as set
use Rattle.gb_types.proofs.InsertedLemmas.{contains-insert}

or_true : (b : Bool) → (b || true) ≡ true
or_true true = refl
or_true false = refl

pub none_here : (here : set.FinSet nat_cmp) → here ≡ set.empty → (k : ℕ) → set.contains here k ≡ true → k < 0
none_here here none k there = absurd (true≢false (sym there ∙ (ap (λ h. set.contains h k) none ∙ set.contains-empty nat_cmp k)))

-- with the next node
pub whole_more : (here now : set.FinSet nat_cmp) (n m : ℕ) → now ≡ set.insert here m → m ≡ n → ((k : ℕ) → k < n → set.contains here k ≡ true) → (k : ℕ) → k < n + 1 → set.contains now k ≡ true
whole_more here now n m is at whole k under =
    let all : set.contains now k ≡ (nat_eq k m || set.contains here k) = ap (λ h. set.contains h k) is ∙ contains-insert here m k in
    elim (eqb_tells k m) [
      | inl t ↦ all ∙ ap (λ b. b || set.contains here k) t.0
      | inr t ↦ all ∙ (ap (λ b. nat_eq k m || b) (whole k (omega (arith, under, t.1, at))) ∙ or_true (nat_eq k m))
    ]

pub within_more : (here now : set.FinSet nat_cmp) (n m : ℕ) → now ≡ set.insert here m → m ≡ n → ((k : ℕ) → set.contains here k ≡ true → k < n) → (k : ℕ) → set.contains now k ≡ true → k < n + 1
within_more here now n m is at within k there =
    let all : set.contains now k ≡ (nat_eq k m || set.contains here k) = ap (λ h. set.contains h k) is ∙ contains-insert here m k in
    elim (eqb_tells k m) [
      | inl t ↦ omega (arith, t.1, at)
      | inr t ↦ let w = within k (sym (all ∙ ap (λ b. b || set.contains here k) t.0) ∙ there) in omega (arith, w)
    ]

-- one node alone
pub alone_has : (none now : set.FinSet nat_cmp) (n : ℕ) → none ≡ set.empty → now ≡ set.insert none n → set.contains now n ≡ true
alone_has none now n empty is = ap (λ h. set.contains h n) is ∙ (contains-insert none n n ∙ ap (λ b. b || set.contains none n) (eq-eqb n n refl))

pub alone : (none now : set.FinSet nat_cmp) (n : ℕ) → none ≡ set.empty → now ≡ set.insert none n → (k : ℕ) → set.contains now k ≡ true → k ≡ n
alone none now n empty is k there =
    let all : set.contains now k ≡ (nat_eq k n || set.contains none k) = ap (λ h. set.contains h k) is ∙ contains-insert none n k in
    elim (eqb_tells k n) [
      | inl t ↦ t.1
      | inr t ↦ let u : k < 0 = none_here none empty k (sym (all ∙ ap (λ b. b || set.contains none k) t.0) ∙ there) in absurd (omega (arith, u))
    ]
