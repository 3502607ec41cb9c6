-- Notices, one node after the other.
use Rattle.gb_types.specs.Common.{◌≡◌, ℕ, zero, suc, ◌+◌, Bool, true, false, cond, ◌&&◌, List, [], ◌∷◌, ◌++◌, map, refl, sym, ap, ◌∙◌, arith, add-one, append_assoc, filter, if◌then◌else◌, range_with_len, append-nil, map-append, filter-append}
use Rattle.gb_types.specs.declared.{node.NodeId.NodeId, spec.Spec.Spec}
use Rattle.gb_rules.specs.Common.{is_other}
use Rattle.gb_alone.specs.declared.{event.GroupEvent.TheVariants.Notice, event.GroupStep.GroupStep}
use Rattle.gb_node.specs.Common.{node_numbered}
use Rattle.gb_node.proofs.TookLemmas.{numbered_is}

-- the notices of the nodes with numbers below n
abbrev pub notices_below : NodeId → Spec → (ℕ → Bool) → ℕ → List GroupStep
notices_below a spec new n = map (λ b. record { node = a; event = Notice (node_numbered b) }) (filter (λ b. is_other spec a.number b && new b) (range_with_len 0 n))

range_more : (low n j : ℕ) → low + n ≡ j → range_with_len low (suc n) ≡ range_with_len low n ++ j ∷ []
range_more low zero j is = let same : low ≡ j = omega arith in ap (λ k. k ∷ []) same
range_more low (suc n) j is = ap (λ xs. low ∷ xs) (range_more (low + 1) n j (omega arith))

-- one node more
notices_more : (a : NodeId) (spec : Spec) (new : ℕ → Bool) (n : ℕ)
    → notices_below a spec new (n + 1) ≡ notices_below a spec new n ++ (if is_other spec a.number n && new n then record { node = a; event = Notice (node_numbered n) } ∷ [] else [])
notices_more a spec new n =
    ap (map told) (ap (filter test) (ap (range_with_len 0) (add-one n) ∙ range_more 0 n n (omega arith)) ∙ filter-append test (range_with_len 0 n) (n ∷ []))
    ∙ (map-append told (filter test (range_with_len 0 n)) (filter test (n ∷ [])) ∙ ap (λ xs. notices_below a spec new n ++ xs) (elim (test n) as (λ t. map told (cond t (n ∷ []) []) ≡ (if t then told n ∷ [] else [])) [ true ↦ refl | false ↦ refl ]))
  where
    told : ℕ → GroupStep
    told b = record { node = a; event = Notice (node_numbered b) }

    test : ℕ → Bool
    test b = is_other spec a.number b && new b

-- the steps with one notice more
pub noticed_more : (a other : NodeId) (spec : Spec) (new : ℕ → Bool) (n : ℕ) (is_new : Bool) (before now later : List GroupStep) → other.number ≡ n → is_new ≡ new other.number
    → later ≡ now ++ (if is_other spec a.number other.number && is_new then record { node = a; event = Notice other } ∷ [] else []) → now ≡ before ++ notices_below a spec new n → later ≡ before ++ notices_below a spec new (n + 1)
noticed_more a other spec new n is_new before now later number is adds was =
    adds
    ∙ (ap (λ xs. xs ++ given other.number is_new other) was
    ∙ (append_assoc before (notices_below a spec new n) (given other.number is_new other)
    ∙ ap (λ xs. before ++ xs) (ap (λ xs. notices_below a spec new n ++ xs) (ap (λ t. given other.number t other) is ∙ (ap (given other.number (new other.number)) (sym (numbered_is other)) ∙ ap (λ k. given k (new k) (node_numbered k)) number)) ∙ sym (notices_more a spec new n))))
  where
    given : ℕ → Bool → NodeId → List GroupStep
    given k t b = if is_other spec a.number k && t then record { node = a; event = Notice b } ∷ [] else []

pub noticed_none : (a : NodeId) (spec : Spec) (new : ℕ → Bool) (steps : List GroupStep) → steps ≡ steps ++ notices_below a spec new 0
noticed_none a spec new steps = sym (append-nil steps)
