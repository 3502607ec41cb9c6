-- The number of different messages within a limit is at most the limit's count.
use Rattle.gb_types.specs.Common.{◌≡◌, ℕ, ◌+◌, ◌*◌, ◌≤◌, Bool, true, false, cond, ◌&&◌, ◌||◌, nat_eq, nat_le, List, [], ◌∷◌, ◌++◌, length, map, count_by, refl, ap, ◌∙◌, sym, arith, zero, suc, length-map, list_any, list_all, IsDistinct, AllByRecursion, eqb-true, nat_tests, length-append, list_any-append, or-true, same, below}
use Rattle.std.specs.FinSet as set
use Rattle.std.specs.Cmp.{IsEquivalence}
use Rattle.std.proofs.{lemmas.Cmp.nat_eq_equiv, lemmas.Map.Made.length-le_from_is_member, Math.Nat.suc-mul}
use Rattle.gb_types.specs.declared.{limits.TheConstants.NODES, message.MsgId.MsgId}
use Rattle.gb_types.proofs.{BoolLemmas.and_left, BoolLemmas.and_right, PlaceLemmas.any-below}
use Rattle.gb_layer.specs.Rule.{Nodes}
use Rattle.gb_layer.specs.Counts.{count_by-cons}
use Rattle.gb_layer.specs.Limit.{Limit, is_counted, message_count}

abbrev Pair : Type 0
Pair = ℕ × ℕ

abbrev pair_eq : Pair → Pair → Bool
pair_eq a b = nat_eq a.0 b.0 && nat_eq a.1 b.1

pair_laws : IsEquivalence pair_eq
pair_laws = record {
  refl = λ x. grind (arith, nat_tests);
  symm = λ x y. λ i. nat_eq_equiv.symm x.0 y.0 i && nat_eq_equiv.symm x.1 y.1 i;
  congr = λ x y z h. λ i. nat_eq_equiv.congr x.0 y.0 z.0 (and_left _ _ h) i && nat_eq_equiv.congr x.1 y.1 z.1 (and_right _ _ h) i;
}

-- the messages of p
abbrev row : ℕ → ℕ → List Pair
row p zero = []
row p (suc n) = (p, suc n) ∷ row p n

length-row : (p n : ℕ) → length (row p n) ≡ n
length-row p zero = refl
length-row p (suc n) = ap suc (length-row p n)

row_has : (p n s : ℕ) → nat_le 1 s ≡ true → nat_le s n ≡ true → list_any (pair_eq (p, s)) (row p n) ≡ true
row_has p zero s h k = absurd (grind (arith, nat_tests))
row_has p (suc n) s h k =
    elim (nat_eq s (suc n)) as (λ b. nat_eq s (suc n) ≡ b → ((nat_eq p p && b) || list_any (pair_eq (p, s)) (row p n)) ≡ true) [
      | true ↦ λ _. let e : nat_eq p p ≡ true = grind (arith, nat_tests) in ap (λ b. (b && true) || list_any (pair_eq (p, s)) (row p n)) e
      | false ↦ λ e. let l : nat_le s n ≡ true = grind (arith, nat_tests) in ap (λ b. (nat_eq p p && false) || b) (row_has p n s h l) ∙ or-true (nat_eq p p && false)
    ] refl

-- the messages of the nodes among these that are members
abbrev cells : Nodes → List ℕ → ℕ → List Pair
cells members [] n = []
cells members (p ∷ ps) n = cond (set.contains members p) (row p n ++ cells members ps n) (cells members ps n)

length-cells : (members : Nodes) (ps : List ℕ) (n : ℕ) → length (cells members ps n) ≡ count_by (λ p. set.contains members p && set.contains members p) ps * n
length-cells members [] n = omega arith
length-cells members (p ∷ ps) n =
    let rest = length-cells members ps n in
    let c = count_by (λ p. set.contains members p && set.contains members p) ps in
    let grown = count_by-cons (λ p. set.contains members p && set.contains members p) p ps in
    (elim (set.contains members p) as (λ b. length (cond b (row p n ++ cells members ps n) (cells members ps n)) ≡ (cond {A = ℕ} (b && b) 1 0 + c) * n) [
      | true ↦ length-append (row p n) (cells members ps n) ∙ (let a = length-row p n in let m = suc-mul c n in let e : length (row p n) + length (cells members ps n) ≡ c * n + n = omega (arith, rest, a) in let z : suc c ≡ 1 + c = omega arith in e ∙ (sym m ∙ ap (λ k. k * n) z))
      | false ↦ let z : c ≡ 0 + c = omega arith in rest ∙ ap (λ k. k * n) z
    ]) ∙ ap (λ k. k * n) (sym grown)

cells_have : (members : Nodes) (ps : List ℕ) (n p s : ℕ) → list_any (λ y. nat_eq y p) ps ≡ true → set.contains members p ≡ true → nat_le 1 s ≡ true → nat_le s n ≡ true
    → list_any (pair_eq (p, s)) (cells members ps n) ≡ true
cells_have members [] n p s is m h k = cc
cells_have members (y ∷ ps) n p s is m h k =
    elim (nat_eq y p) as (λ b. nat_eq y p ≡ b → (b || list_any (λ y. nat_eq y p) ps) ≡ true → list_any (pair_eq (p, s)) (cells members (y ∷ ps) n) ≡ true) [
      | true ↦ λ e _.
          let f : y ≡ p = eqb-true y p e in
          ap (λ z. list_any (pair_eq (p, s)) (cond (set.contains members z) (row z n ++ cells members ps n) (cells members ps n))) f
          ∙ (ap (λ b. list_any (pair_eq (p, s)) (cond b (row p n ++ cells members ps n) (cells members ps n))) m
          ∙ (list_any-append (pair_eq (p, s)) (row p n) (cells members ps n) ∙ ap (λ b. b || list_any (pair_eq (p, s)) (cells members ps n)) (row_has p n s h k)))
      | false ↦ λ _ l.
          let r = cells_have members ps n p s l m h k in
          elim (set.contains members y) as (λ b. list_any (pair_eq (p, s)) (cond b (row y n ++ cells members ps n) (cells members ps n)) ≡ true) [
            | true ↦ list_any-append (pair_eq (p, s)) (row y n) (cells members ps n) ∙ (ap (λ b. list_any (pair_eq (p, s)) (row y n) || b) r ∙ or-true _)
            | false ↦ r
          ]
    ] refl is

abbrev code : MsgId → Pair
code m = (m.origin.number, m.seq)

other_codes : (m : MsgId) (ms : List MsgId) → AllByRecursion (λ y. same m y ≡ false) ms → AllByRecursion (λ y. pair_eq (code m) y ≡ false) (map code ms)
other_codes m [] a = tt
other_codes m (x ∷ ms) a = (a.0, other_codes m ms a.1)

distinct_codes : (ms : List MsgId) → IsDistinct same ms → IsDistinct pair_eq (map code ms)
unfolding IsDistinct
distinct_codes [] d = tt
distinct_codes (m ∷ ms) d = (other_codes m ms d.0, distinct_codes ms d.1)

any_same : {X : Type 0} (p q : X → Bool) → ((x : X) → p x ≡ q x) → (xs : List X) → list_any p xs ≡ list_any q xs
any_same p q f [] = refl
any_same p q f (x ∷ xs) = λ i. f x i || any_same p q f xs i

has_code : (l : Limit) (m : MsgId) → is_counted l m ≡ true → list_any (pair_eq (code m)) (cells l.members (below NODES) l.msgs) ≡ true
has_code l m h =
    let b : list_any (λ y. nat_eq y m.origin.number) (below NODES) ≡ true = any-below NODES m.origin.number ∙ (let k = m.origin.below in grind (arith, nat_tests)) in
    let c = and_right _ _ h in
    cells_have l.members (below NODES) l.msgs m.origin.number m.seq b (and_left _ _ h) (and_left _ _ c) (and_right _ _ c)

have_codes : (l : Limit) (ms : List MsgId) → list_all (is_counted l) ms ≡ true → (q : Pair) → list_any (pair_eq q) (map code ms) ≡ true → list_any (pair_eq q) (cells l.members (below NODES) l.msgs) ≡ true
have_codes l [] h q k = cc
have_codes l (m ∷ ms) h q k =
    elim (pair_eq q (code m)) as (λ b. pair_eq q (code m) ≡ b → (b || list_any (pair_eq q) (map code ms)) ≡ true → list_any (pair_eq q) (cells l.members (below NODES) l.msgs) ≡ true) [
      | true ↦ λ e _. any_same (pair_eq q) (pair_eq (code m)) (λ z. pair_laws.congr q (code m) z e) (cells l.members (below NODES) l.msgs) ∙ has_code l m (and_left _ _ h)
      | false ↦ λ _ r. have_codes l ms (and_right _ _ h) q r
    ] refl k

-- the number of different messages within a limit is at most the limit's count
pub no_more_messages : (l : Limit) (ms : List MsgId) → list_all (is_counted l) ms ≡ true → IsDistinct same ms → length ms ≤ message_count l
no_more_messages l ms h d =
    let a = length-le_from_is_member pair_laws (map code ms) (cells l.members (below NODES) l.msgs) (distinct_codes ms d) (have_codes l ms h) in
    let e = length-cells l.members (below NODES) l.msgs in
    let f : length (map code ms) ≡ length ms = length-map ms code in
    omega (arith, a, e, f)
