-- The number of other generations of a group's room that live.
use Rattle.gb_types.specs.Common.{◌≡◌, ℕ, zero, suc, ◌+◌, ◌-◌, ◌<◌, ◌≤◌, List, [], ◌∷◌, ◌++◌, length, map, drop, take, get_or, refl, ap, sym, ◌∙◌, true, false, arith, inl, inr, zero-add, ◌⊎◌, ◌&&◌, Bool, not, nat_lt, fold, count_by, Option, Some, None, is_some, option_map, if◌then◌else◌, set, cases_Bool}
use Rattle.gb_types.specs.declared.{address.Addr.Addr, limits.TheConstants.NODES, node.NodeId.NodeId, version.Version.Version}
use Rattle.gb_frame.specs.declared.item.Item.{Item}
use Rattle.gb_frame.specs.Common.{address_of, entry_of}
use Rattle.gb_rules.specs.Common.{is_addr, is_too_long, is_other_generation, one_more, one_less, count_by-cons, count_by-map, count_by-grown}
use Rattle.gb_rules.proofs.AddressLemmas.{addr_is}
use Rattle.gb_slot.specs.Common.{slot_came, slot_took, SlotState}
use Rattle.gb_table.specs.SlotsValue.{Row, row_at, vacant, with_vacant, with_room, on_slot, gone}
use Rattle.gb_table.specs.Packing.{Visit, gave, share, took}
use Rattle.gb_table.specs.AtAddress.{place_of, on_address, drop_at, item_came}
use Rattle.gb_table.specs.Rooms.{is_living_other, others_living}
use Rattle.gb_table.proofs.OneGroupLemmas.{first_with, changed, change_first, step_is, gone_is}

abbrev flag : Bool → ℕ
flag b = if b then 1 else 0

some_stepped : (step : SlotState → SlotState) (o : Option SlotState) → is_some (option_map step o) ≡ is_some o
some_stepped step None = refl
some_stepped step (Some s) = refl

living_stepped : (g : Addr) (step : SlotState → SlotState) (r : Row) → is_living_other g (on_slot step r) ≡ is_living_other g r
living_stepped g step r = ap (λ b. b && is_other_generation g r.addr) (some_stepped step r.slot)

-- the number with one row more in front
others_cons : (g : Addr) (r : Row) (rows : List Row) → others_living g (r ∷ rows) ≡ flag (is_living_other g r) + others_living g rows
others_cons g r rows = count_by-cons (is_living_other g) r rows

-- a step of the first row that keeps whether it lives
others_head : (g : Addr) (r new : Row) (rows : List Row) → is_living_other g new ≡ is_living_other g r → others_living g (new ∷ rows) ≡ others_living g (r ∷ rows)
others_head g r new rows e = others_cons g new rows ∙ (ap (λ b. flag b + others_living g rows) e ∙ sym (others_cons g r rows))

others_tail : (g : Addr) (r : Row) (rows new : List Row) → others_living g new ≡ others_living g rows → others_living g (r ∷ new) ≡ others_living g (r ∷ rows)
others_tail g r rows new e = others_cons g r new ∙ (ap (λ n. flag (is_living_other g r) + n) e ∙ sym (others_cons g r rows))

changed_same : (g addr : Addr) (change : Row → Row) → ((r : Row) → is_living_other g (change r) ≡ is_living_other g r) → (rows : List Row) → others_living g (changed addr change rows) ≡ others_living g rows
changed_same g addr change same [] = refl
changed_same g addr change same (r ∷ rows) =
    elim (cases_Bool (is_addr addr r.addr)) [
      | inl e ↦ ap (λ b. others_living g (if b then change r ∷ rows else r ∷ changed addr change rows)) e ∙ others_head g r (change r) rows (same r)
      | inr e ↦ ap (λ b. others_living g (if b then change r ∷ rows else r ∷ changed addr change rows)) e ∙ others_tail g r rows (changed addr change rows) (changed_same g addr change same rows)
    ]

pub others_stepped : (g addr : Addr) (step : SlotState → SlotState) (rows : List Row) → others_living g (on_address addr step rows) ≡ others_living g rows
others_stepped g addr step rows = ap (others_living g) (step_is step rows (place_of addr rows) ∙ change_first addr (on_slot step) rows) ∙ changed_same g addr (on_slot step) (living_stepped g step) rows

pub others_all : (g : Addr) (step : SlotState → SlotState) (rows : List Row) → others_living g (map (on_slot step) rows) ≡ others_living g rows
others_all g step rows = count_by-map (is_living_other g) (on_slot step) (living_stepped g step) rows

pub others_gave : (g : Addr) (dest b : ℕ) (vs : List Visit) (rows : List Row) → others_living g (gave dest b vs rows) ≡ others_living g rows
unfolding gave
others_gave g dest b vs [] = refl
others_gave g dest b vs (r ∷ rows) =
    others_head g r (took dest (share b vs) r) (gave dest (suc b) vs rows) (living_stepped g (slot_took dest (share b vs)) r) ∙ others_tail g r rows (gave dest (suc b) vs rows) (others_gave g dest (suc b) vs rows)

others_came : (version : Version) (g : Addr) (from : NodeId) (i : Item) (rows : List Row) → others_living g (item_came version from i rows) ≡ others_living g rows
others_came version g from i rows =
    elim (cases_Bool (nat_lt i.origin NODES && not (is_too_long version i.payload))) [
      | inl e ↦ ap (λ b. others_living g (if b then on_address (address_of i) (slot_came from (entry_of i)) rows else rows)) e ∙ others_stepped g (address_of i) (slot_came from (entry_of i)) rows
      | inr e ↦ ap (λ b. others_living g (if b then on_address (address_of i) (slot_came from (entry_of i)) rows else rows)) e
    ]

pub others_arrived : (version : Version) (g : Addr) (from : NodeId) (is : List Item) (rows : List Row) → others_living g (fold (λ rows i. item_came version from i rows) rows is) ≡ others_living g rows
others_arrived version g from [] rows = refl
others_arrived version g from (i ∷ is) rows = others_arrived version g from is (item_came version from i rows) ∙ others_came version g from i rows

-- A group that lives is dropped.

living_here : (g addr : Addr) (r : Row) (s : SlotState) → is_addr addr r.addr ≡ true → r.slot ≡ Some s → is_living_other g r ≡ is_other_generation g addr
living_here g addr r s e at = ap (λ o. is_some o && is_other_generation g r.addr) at ∙ ap (is_other_generation g) (sym (addr_is addr r.addr e))

gone_less : (g : Addr) (r : Row) (rows : List Row) → others_living g (gone r ∷ rows) ≡ others_living g rows
gone_less g r rows = others_cons g (gone r) rows ∙ zero-add (others_living g rows)

others_less : (g addr : Addr) (s : SlotState) (rows : List Row) → first_with addr rows ≡ Some (Some s) → others_living g rows ≡ flag (is_other_generation g addr) + others_living g (changed addr gone rows)
others_less g addr s [] e = absurd (cc)
others_less g addr s (r ∷ rows) e =
    elim (cases_Bool (is_addr addr r.addr)) [
      | inl h ↦
          let a : Some r.slot ≡ Some (Some s) = sym (ap (λ b. if b then Some r.slot else first_with addr rows) h) ∙ e in
          let at : r.slot ≡ Some s = cc in
          others_cons g r rows
          ∙ (ap (λ b. flag b + others_living g rows) (living_here g addr r s h at)
          ∙ ap (λ n. flag (is_other_generation g addr) + n) (sym (ap (λ b. others_living g (if b then gone r ∷ rows else r ∷ changed addr gone rows)) h ∙ gone_less g r rows)))
      | inr h ↦
          let a = sym (ap (λ b. if b then Some r.slot else first_with addr rows) h) ∙ e in
          let less = others_less g addr s rows a in
          let new = others_cons g r (changed addr gone rows) in
          let old = others_cons g r rows in
          let swap : flag (is_living_other g r) + others_living g rows ≡ flag (is_other_generation g addr) + (flag (is_living_other g r) + others_living g (changed addr gone rows)) = omega arith in
          old ∙ (swap ∙ ap (λ n. flag (is_other_generation g addr) + n) (sym (ap (λ b. others_living g (if b then gone r ∷ rows else r ∷ changed addr gone rows)) h ∙ new)))
    ]

one_less_is : (g addr : Addr) (n m : ℕ) → n ≡ flag (is_other_generation g addr) + m → m ≡ one_less g addr n
one_less_is g addr n m e =
    elim (cases_Bool (is_other_generation g addr)) [
      | inl h ↦ let f : n ≡ 1 + m = e ∙ ap (λ b. flag b + m) h in sym (ap (λ b. if b then n - 1 else n) h ∙ omega arith)
      | inr h ↦ let f : n ≡ 0 + m = e ∙ ap (λ b. flag b + m) h in sym (ap (λ b. if b then n - 1 else n) h ∙ omega arith)
    ]

pub others_dropped : (g addr : Addr) (s : SlotState) (rows : List Row) → first_with addr rows ≡ Some (Some s) → others_living g (drop_at addr rows) ≡ one_less g addr (others_living g rows)
others_dropped g addr s rows e =
    ap (others_living g) (gone_is rows (place_of addr rows) ∙ change_first addr gone rows) ∙ one_less_is g addr (others_living g rows) (others_living g (changed addr gone rows)) (others_less g addr s rows e)

-- A group is made at a free place.

-- no group lives at a place without a slot
nobody_lives : (g : Addr) (r : Row) → r.slot ≡ None → is_living_other g r ≡ false
nobody_lives g r e = ap (λ o. is_some o && is_other_generation g r.addr) e

others_put : (g : Addr) (rows : List Row) (p : ℕ) (row : Row) → p < length rows → (row_at rows p).slot ≡ None → others_living g (set rows p row) ≡ flag (is_living_other g row) + others_living g rows
others_put g [] p row l e = absurd (omega arith)
others_put g (r ∷ rows) zero row l e = others_cons g row rows ∙ ap (λ n. flag (is_living_other g row) + n) (sym (others_cons g r rows ∙ (ap (λ b. flag b + others_living g rows) (nobody_lives g r e) ∙ zero-add (others_living g rows))))
others_put g (r ∷ rows) (suc p) row l e =
    let more = others_put g rows p row (omega arith) e in
    let new = others_cons g r (set rows p row) in
    let old = others_cons g r rows in
    new ∙ (ap (λ n. flag (is_living_other g r) + n) more ∙ (omega arith ∙ ap (λ n. flag (is_living_other g row) + n) (sym old)))

others_append : (g : Addr) (rows : List Row) (row : Row) → row.slot ≡ None → others_living g (rows ++ row ∷ []) ≡ others_living g rows
others_append g rows row e = count_by-grown (is_living_other g) false rows row (nobody_lives g row e)

pub others_roomed : (g : Addr) (p : ℕ) (rows : List Row) → others_living g (with_room p rows) ≡ others_living g rows
others_roomed g p rows =
    let one = with_vacant rows in
    let two = with_vacant one in
    let three = with_vacant two in
    elim (cases_Bool (nat_lt p (length rows))) [
      | inl e ↦ ap (λ b. others_living g (if b then rows else with_vacant three)) e
      | inr e ↦
          ap (λ b. others_living g (if b then rows else with_vacant three)) e
          ∙ (others_append g three (vacant (length three)) refl
          ∙ (others_append g two (vacant (length two)) refl
          ∙ (others_append g one (vacant (length one)) refl
          ∙ others_append g rows (vacant (length rows)) refl)))
    ]

pub others_made : (g addr : Addr) (s : SlotState) (rows : List Row) (p : ℕ) → p < length (with_room p rows) → (row_at (with_room p rows) p).slot ≡ None → others_living g (set (with_room p rows) p (record { addr = addr; slot = Some s })) ≡ one_more g addr (others_living g rows)
others_made g addr s rows p l e =
    others_put g (with_room p rows) p (record { addr = addr; slot = Some s }) l e
    ∙ (ap (λ n. flag (is_other_generation g addr) + n) (others_roomed g p rows)
    ∙ elim (cases_Bool (is_other_generation g addr)) [
      | inl h ↦ ap (λ b. flag b + others_living g rows) h ∙ (omega arith ∙ sym (ap (λ b. if b then others_living g rows + 1 else others_living g rows) h))
      | inr h ↦ ap (λ b. flag b + others_living g rows) h ∙ (zero-add (others_living g rows) ∙ sym (ap (λ b. if b then others_living g rows + 1 else others_living g rows) h))
    ])

-- The places of a room.

-- a row that passes the test at each of these places in turn is counted
pub count_run : {X : Type 0} (t : X → Bool) (xs : List X) (p n : ℕ) (d : X) → p + n ≤ length xs → ((k : ℕ) → k < n → t (get_or xs (p + k) d) ≡ true) → n ≤ count_by t xs
count_run t xs p zero d l all = omega arith
count_run t [] p (suc n) d l all = absurd (omega arith)
count_run t (x ∷ xs) zero (suc n) d l all =
    let more = count_run t xs 0 n d (omega arith) (λ k h. ap (λ i. t (get_or xs i d)) (zero-add k) ∙ (ap (λ i. t (get_or (x ∷ xs) i d)) (sym (zero-add (suc k))) ∙ all (suc k) (omega arith))) in
    let first = count_by-cons t x xs ∙ ap (λ b. flag b + count_by t xs) (all 0 (omega arith)) in
    omega arith
count_run t (x ∷ xs) (suc p) (suc n) d l all =
    let more = count_run t xs p (suc n) d (omega arith) (λ k h. let s : suc p + k ≡ suc (p + k) = omega arith in ap (λ i. t (get_or (x ∷ xs) i d)) (sym s) ∙ all k h) in
    let first = count_by-cons t x xs in
    omega arith

pub count_none : {X : Type 0} (t : X → Bool) (xs : List X) (d : X) → ((k : ℕ) → k < length xs → t (get_or xs k d) ≡ false) → count_by t xs ≡ 0
count_none t [] d none = refl
count_none t (x ∷ xs) d none = count_by-cons t x xs ∙ (ap (λ b. flag b + count_by t xs) (none 0 (omega arith)) ∙ zero-add (count_by t xs) ∙ count_none t xs d (λ k l. none (suc k) (omega arith)))

-- if only a block's elements can pass, those of the block are counted
pub count_block : {X : Type 0} (t : X → Bool) (xs : List X) (from n : ℕ) (d : X) → ((k : ℕ) → k < length xs → (k < from) ⊎ (from + n ≤ k) → t (get_or xs k d) ≡ false) → count_by t xs ≡ count_by t (take n (drop from xs))
count_block t [] zero zero d off = refl
count_block t [] (suc from) zero d off = refl
count_block t [] zero (suc n) d off = refl
count_block t [] (suc from) (suc n) d off = refl
count_block t (x ∷ xs) zero zero d off = count_none t (x ∷ xs) d (λ k l. off k l (inr (omega arith)))
count_block t (x ∷ xs) zero (suc n) d off =
    count_by-cons t x xs
    ∙ (ap (λ m. flag (t x) + m) (count_block t xs zero n d (λ k l h. off (suc k) (omega arith) (elim h [ inl a ↦ absurd (omega arith) | inr a ↦ inr (omega arith) ])))
    ∙ sym (count_by-cons t x (take n xs)))
count_block t (x ∷ xs) (suc from) n d off =
    count_by-cons t x xs
    ∙ (ap (λ b. flag b + count_by t xs) (off 0 (omega arith) (inl (omega arith))) ∙ zero-add (count_by t xs)
    ∙ count_block t xs from n d (λ k l h. off (suc k) (omega arith) (elim h [ inl a ↦ inl (omega arith) | inr a ↦ inr (omega arith) ])))

-- two tests that agree on the elements count the same
pub count_same : {X : Type 0} (t u : X → Bool) (xs : List X) (d : X) → ((k : ℕ) → k < length xs → t (get_or xs k d) ≡ u (get_or xs k d)) → count_by t xs ≡ count_by u xs
count_same t u [] d same = refl
count_same t u (x ∷ xs) d same = count_by-cons t x xs ∙ (ap (λ b. flag b + count_by t xs) (same 0 (omega arith)) ∙ (ap (λ n. flag (u x) + n) (count_same t u xs d (λ k l. same (suc k) (omega arith))) ∙ sym (count_by-cons u x xs)))
