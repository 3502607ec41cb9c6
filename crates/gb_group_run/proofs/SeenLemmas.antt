-- What is seen at each node is what is seen of the group alone.
use Rattle.gb_types.specs.Common.{◌≡◌, ℕ, zero, suc, ◌<◌, ◌≤◌, List, [], ◌∷◌, ◌++◌, length, get_or, refl, sym, ◌∙◌, ap, arith, add-one, map, take, map-append, take_at, take_more}
use Rattle.gb_types.specs.declared.{entry.Entry.Entry, limits.TheConstants.NODES}
use Rattle.gb_alone.specs.Common.{Group, numbers_below, seen_at, observed_alone}
use Rattle.gb_alone.proofs.ObservationLemmas.{map_more, map_none, seen_same}
use Rattle.gb_group_run.specs.SlotMember.{SlotMember, new_member, carried_to, waits, member_at, seen_of}
use Rattle.gb_group_run.proofs.Stands.{AllStand}

-- the first elements of a list, by their numbers
first_of : {X Y : Type 0} (f : X → Y) (d : X) (n : ℕ) (xs : List X) → n ≤ length xs → map f (take n xs) ≡ map (λ a. f (get_or xs a d)) (numbers_below n)
first_of f d zero xs few = sym (map_none (λ a. f (get_or xs a d)))
first_of f d (suc n) xs few =
    ap (λ k. map f (take k xs)) (sym (add-one n))
    ∙ (ap (map f) (take_more xs n d (omega (arith, few)))
    ∙ (map-append f (take n xs) (get_or xs n d ∷ [])
    ∙ (ap (λ ys. ys ++ f (get_or xs n d) ∷ []) (first_of f d n xs (omega (arith, few)))
    ∙ (sym (map_more (λ a. f (get_or xs a d)) n) ∙ ap (λ k. map (λ a. f (get_or xs a d)) (numbers_below k)) (add-one n)))))

itself : {X : Type 0} (xs : List X) → map (λ (x : X). x) xs ≡ xs
itself [] = refl
itself (x ∷ xs) = ap (λ ys. x ∷ ys) (itself xs)

rows_are : (nodes : ℕ) (v : SlotMember) → nodes ≤ length v.carried → take nodes v.carried ≡ map (carried_to v) (numbers_below nodes)
rows_are nodes v few = sym (itself (take nodes v.carried)) ∙ first_of (λ (row : List Entry). row) [] nodes v.carried few

seen_listed : (nodes : ℕ) (v : SlotMember) → nodes ≤ length v.carried → seen_of nodes v ≡ record { replies = v.replies; carried = map (carried_to v) (numbers_below nodes) }
seen_listed nodes v few = λ i. record { replies = v.replies; carried = rows_are nodes v few i }

pub seen_is : (nodes : ℕ) (vs : List SlotMember) (group : Group) → nodes ≤ NODES → AllStand vs group → map (seen_of nodes) (take nodes vs) ≡ observed_alone nodes group
seen_is nodes vs group few all =
    first_of (seen_of nodes) new_member nodes vs (omega (arith, few, all.size))
    ∙ (each nodes (omega arith)
    ∙ seen_same nodes (λ a. (member_at vs a).replies) (λ a. (group a).replies) (λ a. carried_to (member_at vs a)) (λ a b. take ((group a).taken b) ((group a).put b))
    (λ a low. let h = all.members a (omega (arith, low, few)) in sym h.replies) (λ a b low below. carried a b (omega (arith, low, few)) (omega (arith, below, few))))
  where
    carried : (a b : ℕ) → a < NODES → b < NODES → carried_to (member_at vs a) b ≡ take ((group a).taken b) ((group a).put b)
    carried a b low below =
        let h = all.members a low in
        sym (take_at (carried_to (member_at vs a) b) (waits (member_at vs a).slot b) (length (carried_to (member_at vs a) b)) refl) ∙ (λ i. take (sym (h.taken b below) i) (sym (h.put b below) i))

    each : (n : ℕ) → n ≤ nodes → map (λ a. seen_of nodes (member_at vs a)) (numbers_below n) ≡ map (seen_at nodes (λ a. (member_at vs a).replies) (λ a. carried_to (member_at vs a))) (numbers_below n)
    each zero low = map_none (λ a. seen_of nodes (member_at vs a)) ∙ sym (map_none (seen_at nodes (λ a. (member_at vs a).replies) (λ a. carried_to (member_at vs a))))
    each (suc n) low =
        let h = all.members n (omega (arith, low, few)) in
        ap (λ k. map (λ a. seen_of nodes (member_at vs a)) (numbers_below k)) (sym (add-one n))
        ∙ (map_more (λ a. seen_of nodes (member_at vs a)) n
        ∙ ((λ i. each n (omega (arith, low)) i ++ seen_listed nodes (member_at vs n) (omega (arith, few, h.size)) i ∷ [])
        ∙ (sym (map_more (seen_at nodes (λ a. (member_at vs a).replies) (λ a. carried_to (member_at vs a))) n) ∙ ap (λ k. map (seen_at nodes (λ a. (member_at vs a).replies) (λ a. carried_to (member_at vs a))) (numbers_below k)) (add-one n))))
