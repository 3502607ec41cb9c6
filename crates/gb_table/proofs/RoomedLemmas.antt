-- The places of a new room change nothing for the groups that are here.
use Rattle.gb_types.specs.Common.{◌≡◌, ℕ, ◌≤◌, List, [], ◌∷◌, length, refl, ap, sym, ◌∙◌, subst, arith, inl, inr, length-append, nat_lt, None, map, if◌then◌else◌, cases_Bool, cases_lt, get_or_past}
use Rattle.slab.specs.Slab.{Slab, get}
use Rattle.gb_types.specs.declared.{address.Addr.Addr, limits.TheConstants.PLACES}
use Rattle.gb_slot.specs.Common.{SlotState}
use Rattle.gb_table.specs.declared.{places.Place.Place, places.Place.TheVariants.Key, places.Place.TheVariants.Gone}
use Rattle.gb_table.specs.GroupsValue.{ArePlaces, IsIndex}
use Rattle.gb_table.specs.Members.{AreMemberships}
use Rattle.gb_table.specs.Places.{row_of, place_at, slot_under, AreKept}
use Rattle.gb_table.specs.SlotsValue.{Row, row_at, no_row, vacant, with_vacant, with_room}
use Rattle.gb_table.proofs.AddLemmas.{not_free}
use Rattle.gb_table.proofs.IndexLemmas.{index_grown}
use Rattle.gb_table.proofs.MadeLemmas.{with_room_is}
use Rattle.gb_table.proofs.MemberLemmas.{memberships_vacant}
use Rattle.gb_table.proofs.SlotsLemmas.{row_is}

-- each place has the slot that it had
pub slot_roomed : (place : ℕ) (rows : List Row) (p : ℕ) → (row_at (with_room place rows) p).slot ≡ (row_at rows p).slot
slot_roomed place rows p =
    let w = with_room_is place rows in
    let past : length rows ≤ p → (row_at rows p).slot ≡ None = λ h. ap (λ (r : Row). r.slot) (get_or_past rows p no_row h) in
    elim (cases_lt p (length rows)) [
      | inl h ↦ ap (λ (r : Row). r.slot) (w.extends.1 p h)
      | inr h ↦ elim (cases_lt p (length (with_room place rows))) [
        | inl k ↦ ap (λ (r : Row). r.slot) (w.extends.2 p h k) ∙ sym (past h)
        | inr k ↦ ap (λ (r : Row). r.slot) (get_or_past (with_room place rows) p no_row k) ∙ sym (past h)
      ]
    ]

pub members_roomed : (place : ℕ) (rows : List Row) (sets : List (List ℕ)) → AreMemberships rows sets → AreMemberships (with_room place rows) sets
members_roomed place rows sets ok = memberships_vacant rows (with_room place rows) sets (slot_roomed place rows) ok

pub places_roomed : (place : ℕ) (rows : List Row) (cursors : List ℕ) → ArePlaces rows cursors → ArePlaces (with_room place rows) cursors
places_roomed place rows cursors ok = record { size = ok.size; within = λ d. let h = ok.within d in let l = (with_room_is place rows).extends.0 in omega arith }

index_vacant : (rows : List Row) (busy : List (List ℕ)) → length (with_vacant rows) ≤ PLACES → IsIndex rows busy → IsIndex (with_vacant rows) busy
index_vacant rows busy few ok = let n = length-append rows (vacant (length rows) ∷ []) in index_grown rows busy (vacant (length rows)) ok (omega arith) (λ d. refl)

pub index_roomed : (place : ℕ) (rows : List Row) (busy : List (List ℕ)) → length (with_room place rows) ≤ PLACES → IsIndex rows busy → IsIndex (with_room place rows) busy
index_roomed place rows busy few ok =
    let one = with_vacant rows in
    let two = with_vacant one in
    let three = with_vacant two in
    elim (cases_Bool (nat_lt place (length rows))) [
      | inl e ↦ subst (λ b. IsIndex (if b then rows else with_vacant three) busy) (sym e) ok
      | inr e ↦
          let all : length (with_vacant three) ≤ PLACES = subst (λ b. length (if b then rows else with_vacant three) ≤ PLACES) e few in
          let a = length-append rows (vacant (length rows) ∷ []) in
          let b = length-append one (vacant (length one) ∷ []) in
          let c = length-append two (vacant (length two) ∷ []) in
          let d = length-append three (vacant (length three) ∷ []) in
          let first = index_vacant rows busy (omega arith) ok in
          let second = index_vacant one busy (omega arith) first in
          let third = index_vacant two busy (omega arith) second in
          subst (λ x. IsIndex (if x then rows else with_vacant three) busy) (sym e) (index_vacant three busy all third)
    ]

-- a place with no slot leads to no key
pub leads_nowhere : (slots : Slab SlotState) (es : List (Addr × Place)) (p : ℕ) → AreKept es slots → (row_at (map (row_of slots) es) p).slot ≡ None → place_at es p ≡ Gone
leads_nowhere slots es p kept e = by (place_at es p) refl
  where
    by : (o : Place) → place_at es p ≡ o → place_at es p ≡ Gone
    by Gone h = h
    by (Key k) h = absurd (not_free (get slots k) (kept.there p k h) (sym (ap (slot_under slots) h) ∙ (sym (ap (λ (r : Row). r.slot) (row_is slots es p)) ∙ e)))
