use Rattle.gb_types.specs.Common.{◌≡◌, ◌<◌, ◌≤◌, ℕ, List, [], ◌∷◌, length, map, ap, refl, sym, subst, ◌∙◌, arith, Some, if◌then◌else◌, set, length-map}
use Rattle.indexmap.specs.IndexMap.{insert_entry}
use Rattle.slab.specs.Slab.{Slab, get}
use Rattle.gb_types.specs.declared.{address.Addr.Addr, spec.Spec.Spec, limits.TheConstants.NODES, limits.TheConstants.PAYLOAD, limits.TheConstants.PLACES}
use Rattle.gb_types.specs.contracts.address.AddrPartialEq.TheImpl.{ghosts}
use Rattle.gb_rules.specs.Common.{is_addr, payload_in, name_of}
use Rattle.gb_rules.specs.declared.room.TheConstants.{ROOMS}
use Rattle.gb_slot.specs.Common.{new_slot, SlotState}
use Rattle.gb_table.specs.declared.{groups.Groups.TheInside.Inside, places.Place.Place, places.Place.TheVariants.Key}
use Rattle.gb_table.specs.Covered.{HaveGrown}
use Rattle.gb_table.specs.OneGroup.{CanBeMade}
use Rattle.gb_table.specs.Packing.{queue_of}
use Rattle.gb_table.specs.Places.{row_of, groups_of, entries_with_room, AreVacantEntries, AreOthers, AreKept, AreIndexed, AreGroups}
use Rattle.gb_table.specs.Rooms.{rank_of, free_place, with_made, AreInRooms}
use Rattle.gb_table.specs.SlotsValue.{Row, row_at, with_room, IsShort}
use Rattle.gb_table.specs.GroupsValue.{GroupsValue, made}
use Rattle.gb_table.proofs.AddLemmas.{Grows, Placed, placed, Roomed, roomed, kept_same, entries_vacant, addr_is_at}
use Rattle.gb_table.proofs.CoveredLemmas.{grown_none, index_grown_words, memberships_grown_words, covered_grown, covered_enrolled}
use Rattle.gb_table.proofs.IndexLemmas.{index_unchanged, places_unchanged}
use Rattle.gb_table.proofs.MadeLemmas.{TakesPlace, takes_place, rooms_made}
use Rattle.gb_table.proofs.MemberLemmas.{memberships_put}
use Rattle.gb_table.proofs.RoomedLemmas.{leads_nowhere, members_roomed, places_roomed, index_roomed}
use Rattle.gb_table.proofs.UnchangedLemmas.{waiting-new}
use Rattle.gb_table.proofs.groups.Groups.make.Goals as goal

-- memory was taken, and nothing else has changed
roomier : (h : Inside) (rooms : List (Addr × ℕ)) (es : List (Addr × Place)) (slots : Slab SlotState) (capacity : ℕ) (busy members : List (List ℕ)) → rooms ≡ h.rooms.entries → es ≡ h.places.entries → slots ≡ record h.slots { capacity = capacity } → HaveGrown h.busy busy → HaveGrown h.memberships members → AreGroups h
    → AreKept es slots × AreIndexed rooms (map (row_of slots) es) h.cursors busy members
roomier h rooms es slots capacity busy members e f g v w ok =
    let rows = (groups_of h).rows in
    let now = map (row_of slots) es in
    let same : now ≡ rows = ap (λ (xs : List (Addr × Place)). map (row_of slots) xs) f ∙ ap (λ (s : Slab SlotState). map (row_of s) h.places.entries) g in (
      kept_same h.places.entries es h.slots slots capacity f g ok.0,
      subst (λ (rs : List (Addr × ℕ)). AreIndexed rs now h.cursors busy members) (sym e) (subst (λ (rs : List Row). AreIndexed h.rooms.entries rs h.cursors busy members) (sym same) (record {
        places = ok.1.places;
        index = index_grown_words rows h.busy busy ok.1.index v;
        members = memberships_grown_words rows h.memberships members ok.1.members w;
        covered = covered_grown h.memberships members h.busy busy ok.1.covered w v;
        in_rooms = ok.1.in_rooms;
      })),
    )

-- the map's insertion is that of the rooms
inserted : (name addr : Addr) (rooms : List (Addr × ℕ)) → name ≡ name_of addr → insert_entry ghosts.eq rooms name addr.generation ≡ with_made addr rooms
inserted name addr rooms e = ap (λ (n : Addr). insert_entry ghosts.eq rooms n addr.generation) e ∙ by rooms
  where
    by : (rs : List (Addr × ℕ)) → insert_entry ghosts.eq rs (name_of addr) addr.generation ≡ with_made addr rs
    by [] = refl
    by (r ∷ rs) = ap (λ (xs : List (Addr × ℕ)). if is_addr (name_of addr) r.0 then (r.0, addr.generation) ∷ rs else r ∷ xs) (by rs)

-- the place that was found is the one that the group takes
found : (addr : Addr) (t now : GroupsValue) (place : ℕ) → t ≡ now → AreInRooms t.rooms t.rows → CanBeMade addr now → place ≡ free_place (rank_of addr now.rooms) now.rows → TakesPlace addr t place
found addr t now place e ok can is =
    subst (TakesPlace addr t) (sym (is ∙ ap (λ (v : GroupsValue). free_place (rank_of addr v.rooms) v.rows) (sym e))) (takes_place addr t ok (subst (CanBeMade addr) (sym e) can))

-- there are places for one more room
within_places : (addr : Addr) (t now : GroupsValue) (place : ℕ) → t ≡ now → TakesPlace addr t place → length (with_made addr now.rooms) ≤ ROOMS → length (with_room place t.rows) ≤ PLACES
within_places addr t now place e takes few = let n = ap (λ (v : GroupsValue). length (with_made addr v.rooms)) e in let m = takes.size in omega arith

-- the place that a group takes, among the places with those of a new room
module _ (addr : Addr) (h : Inside) (place : ℕ) (ok : AreGroups h) (takes : TakesPlace addr (groups_of h) place) (some : 0 < addr.tenant) where
  room : Roomed place h.places.entries h.slots
  room = roomed place h.places.entries h.slots ok.0

  size_is : length (entries_with_room place h.places.entries) ≡ length (with_room place (groups_of h).rows)
  size_is = sym (length-map (entries_with_room place h.places.entries) (row_of h.slots)) ∙ ap (λ (rs : List Row). length rs) room.rows

  here : place < length (entries_with_room place h.places.entries)
  here = let n = size_is in let l = takes.within in omega arith

  others : AreOthers addr (entries_with_room place h.places.entries)
  others p l = ap (is_addr addr) (addr_is_at h.slots (entries_with_room place h.places.entries) p ∙ ap (λ (rs : List Row). (row_at rs p).addr) room.rows) ∙ takes.none p (let n = size_is in omega arith)

  put : (new : Slab SlotState) (key : ℕ) (v : SlotState) → Grows h.slots new key v → length v.taken ≡ NODES → IsShort PAYLOAD (Some v) → Placed addr (entries_with_room place h.places.entries) h.slots new place key v
  put new key v g size short =
      placed addr (entries_with_room place h.places.entries) h.slots new place key v g room.kept here (leads_nowhere h.slots (entries_with_room place h.places.entries) place room.kept (ap (λ (rs : List Row). (row_at rs place).slot) room.rows ∙ takes.free)) size short some
      (λ q l. ap (λ (rs : List Row). is_addr addr (row_at rs q).addr) room.rows ∙ takes.none q (let n = ap (λ (rs : List Row). length rs) room.rows in omega arith))

pub cover-requires-clause-place : goal.cover-requires-clause-place
cover-requires-clause-place c =
    let takes = found c.args.addr (groups_of c.self.inside) c.args.self.now c.free_place-place.result c.self.view_is c.self.invariant.1.in_rooms c.requires.can c.free_place-place.ensures in
    let most = within_places c.args.addr (groups_of c.self.inside) c.args.self.now c.free_place-place.result c.self.view_is takes c.requires.few in
    let l = takes.within in
    omega arith

pub cover-requires-2-clause-place : goal.cover-requires-2-clause-place
cover-requires-2-clause-place c =
    let takes = found c.args.addr (groups_of c.self.inside) c.args.self.now c.free_place-place.result c.self.view_is c.self.invariant.1.in_rooms c.requires.can c.free_place-place.ensures in
    let most = within_places c.args.addr (groups_of c.self.inside) c.args.self.now c.free_place-place.result c.self.view_is takes c.requires.few in
    let l = takes.within in
    omega arith

pub add_room-requires-clause-vacant : goal.add_room-requires-clause-vacant
add_room-requires-clause-vacant c = subst AreVacantEntries (sym c.reserve-2.ensures.entries) (entries_vacant c.self.inside.slots c.self.inside.places.entries c.self.invariant.0)

pub add_room-requires-clause-few : goal.add_room-requires-clause-few
add_room-requires-clause-few c =
    let takes = found c.args.addr (groups_of c.self.inside) c.args.self.now c.free_place-place.result c.self.view_is c.self.invariant.1.in_rooms c.requires.can c.free_place-place.ensures in
    let most = within_places c.args.addr (groups_of c.self.inside) c.args.self.now c.free_place-place.result c.self.view_is takes c.requires.few in
    let n = size_is c.args.addr c.self.inside c.free_place-place.result c.self.invariant takes c.requires.can.tenant in
    let e = ap (λ (xs : List (Addr × Place)). length (entries_with_room c.free_place-place.result xs)) c.reserve-2.ensures.entries in
    omega arith

pub put_at-requires-clause-within : goal.put_at-requires-clause-within
put_at-requires-clause-within c =
    let takes = found c.args.addr (groups_of c.self.inside) c.args.self.now c.free_place-place.result c.self.view_is c.self.invariant.1.in_rooms c.requires.can c.free_place-place.ensures in
    subst (λ (xs : List (Addr × Place)). c.free_place-place.result < length xs) (sym (c.add_room.ensures.entries ∙ ap (entries_with_room c.free_place-place.result) c.reserve-2.ensures.entries)) (here c.args.addr c.self.inside c.free_place-place.result c.self.invariant takes c.requires.can.tenant)

pub put_at-requires-clause-fresh : goal.put_at-requires-clause-fresh
put_at-requires-clause-fresh c =
    let takes = found c.args.addr (groups_of c.self.inside) c.args.self.now c.free_place-place.result c.self.view_is c.self.invariant.1.in_rooms c.requires.can c.free_place-place.ensures in
    subst (AreOthers c.args.addr) (sym (c.add_room.ensures.entries ∙ ap (entries_with_room c.free_place-place.result) c.reserve-2.ensures.entries)) (others c.args.addr c.self.inside c.free_place-place.result c.self.invariant takes c.requires.can.tenant)

pub invariant_of-self-in_err-reserve-2 : goal.invariant_of-self-in_err-reserve-2
invariant_of-self-in_err-reserve-2 c = roomier c.self.inside c.reserve.new.self.entries c.reserve-2.new.self.entries c.self.inside.slots c.self.inside.slots.capacity c.self.inside.busy c.self.inside.memberships c.reserve.ensures.entries c.reserve-2.ensures.entries refl (grown_none c.self.inside.busy) (grown_none c.self.inside.memberships) c.self.invariant

pub invariant_of-self-in_err-reserve-3 : goal.invariant_of-self-in_err-reserve-3
invariant_of-self-in_err-reserve-3 c = roomier c.self.inside c.reserve.new.self.entries c.reserve-2.new.self.entries c.reserve-3.new.self _ c.self.inside.busy c.self.inside.memberships c.reserve.ensures.entries c.reserve-2.ensures.entries c.reserve-3.ensures.rest_kept (grown_none c.self.inside.busy) (grown_none c.self.inside.memberships) c.self.invariant

pub invariant_of-self-in_err-cover : goal.invariant_of-self-in_err-cover
invariant_of-self-in_err-cover c = roomier c.self.inside c.reserve.new.self.entries c.reserve-2.new.self.entries c.reserve-3.new.self _ c.cover.new.sets c.self.inside.memberships c.reserve.ensures.entries c.reserve-2.ensures.entries c.reserve-3.ensures.rest_kept c.cover.ensures.grown (grown_none c.self.inside.memberships) c.self.invariant

pub invariant_of-self-in_err-cover-2 : goal.invariant_of-self-in_err-cover-2
invariant_of-self-in_err-cover-2 c = roomier c.self.inside c.reserve.new.self.entries c.reserve-2.new.self.entries c.reserve-3.new.self _ c.cover.new.sets c.cover-2.new.sets c.reserve.ensures.entries c.reserve-2.ensures.entries c.reserve-3.ensures.rest_kept c.cover.ensures.grown c.cover-2.ensures.grown c.self.invariant

pub invariant_of-self-in_default : goal.invariant_of-self-in_default
invariant_of-self-in_default c = roomier c.self.inside c.reserve.new.self.entries c.reserve-2.new.self.entries c.reserve-3.new.self _ c.cover.new.sets c.cover-2.new.sets c.reserve.ensures.entries c.reserve-2.ensures.entries c.reserve-3.ensures.rest_kept c.cover.ensures.grown c.cover-2.ensures.grown c.self.invariant

pub invariant_of-self-2 : goal.invariant_of-self-2
invariant_of-self-2 c =
    let old = (groups_of c.self.inside).rows in
    let place = c.free_place-place.result in
    let key = c.insert_reserved-key.result in
    let v = c.in-Ok.slot in
    let same = λ (k : ℕ). ap (λ (sl : Slab SlotState). get sl k) c.reserve-3.ensures.rest_kept in
    let grows : Grows c.self.inside.slots c.insert_reserved-key.new.self key v = record { free = sym (same key) ∙ c.insert_reserved-key.ensures.was_vacant; here = c.insert_reserved-key.ensures.updates.changed; others = λ k ne. c.insert_reserved-key.ensures.updates.others k ne ∙ same k } in
    let state = c.in-Ok.ensures.ok ∙ ap (λ (sp : Spec). new_slot sp c.args.me c.args.noticed.now) c.duplicate.ensures in
    let entries = c.put_at.ensures ∙ ap (λ (xs : List (Addr × Place)). set xs place (c.args.addr, Key key)) (c.add_room.ensures.entries ∙ ap (entries_with_room place) c.reserve-2.ensures.entries) in
    let h = c.self.inside in
    let t = groups_of h in
    let busy = c.cover.new.sets in
    let members = c.cover-2.new.sets in
    let s = new_slot c.args.spec.now c.args.me c.args.noticed.now in
    let row : Row = record { addr = c.args.addr; slot = Some s } in
    let can = subst (CanBeMade c.args.addr) (sym c.self.view_is) c.requires.can in
    let takes = found c.args.addr (groups_of c.self.inside) c.args.self.now c.free_place-place.result c.self.view_is c.self.invariant.1.in_rooms c.requires.can c.free_place-place.ensures in
    let after = put c.args.addr c.self.inside place c.self.invariant takes c.requires.can.tenant c.insert_reserved-key.new.self key v grows (ap (λ (sl : SlotState). length sl.taken) state) (λ m. subst (λ (sl : SlotState). length (payload_in sl.store m) ≤ PAYLOAD) (sym state) (omega arith)) in
    let rows = ap (map (row_of c.insert_reserved-key.new.self)) entries
    ∙ (after.rows
    ∙ (ap (λ (rs : List Row). set rs place (record { addr = c.args.addr; slot = Some v })) (roomed place c.self.inside.places.entries c.self.inside.slots c.self.invariant.0).rows
    ∙ ap (λ (sl : SlotState). set (with_room place old) place (record { addr = c.args.addr; slot = Some sl })) state)) in
    let few = within_places c.args.addr t c.args.self.now place c.self.view_is takes c.requires.few in
    let whole = (roomier h h.rooms.entries h.places.entries h.slots h.slots.capacity busy members refl refl refl c.cover.ensures.grown c.cover-2.ensures.grown c.self.invariant).1 in
    let is : place ≡ free_place (rank_of c.args.addr t.rooms) t.rows = c.free_place-place.ensures ∙ ap (λ (v : GroupsValue). free_place (rank_of c.args.addr v.rooms) v.rows) (sym c.self.view_is) in
    let rooms = (rw c.unwrap.ensures at c.insert.ensures.entries) ∙ (ap (λ (rs : List (Addr × ℕ)). insert_entry ghosts.eq rs c.name_of.result c.args.addr.generation) c.reserve.ensures.entries ∙ inserted c.name_of.result c.args.addr t.rooms c.name_of.ensures) in (
      subst (λ (xs : List (Addr × Place)). AreKept xs c.insert_reserved-key.new.self) (sym entries) after.kept,
      subst (λ (rs : List Row). AreIndexed c.insert.new.self.entries rs h.cursors busy c.enrol.new.memberships) (sym rows) (record {
        places = places_unchanged (with_room place old) h.cursors place row (places_roomed place old h.cursors whole.places);
        index = index_unchanged (with_room place old) busy place row (index_roomed place old busy few whole.index) (λ d. waiting-new d c.args.spec.now c.args.me c.args.noticed.now ∙ sym (ap (queue_of d) takes.free));
        members = memberships_put (with_room place old) members c.enrol.new.memberships place row c.args.spec.now.members (members_roomed place old members whole.members) takes.within c.enrol.ensures (λ who. refl);
        covered = covered_enrolled place c.args.spec.now.members members c.enrol.new.memberships busy whole.covered c.in_ok-cover.ensures.words c.enrol.ensures;
        in_rooms = subst (λ (rs : List (Addr × ℕ)). AreInRooms rs (set (with_room place old) place row)) (sym rooms)
            (subst (λ p. AreInRooms (with_made c.args.addr t.rooms) (set (with_room p old) p row)) (sym is) (rooms_made c.args.addr s t c.self.invariant.1.in_rooms can));
      }),
    )

pub returns-clause-made : goal.returns-clause-made
returns-clause-made c =
    let old = (groups_of c.self.inside).rows in
    let place = c.free_place-place.result in
    let key = c.insert_reserved-key.result in
    let v = c.in-Ok.slot in
    let same = λ (k : ℕ). ap (λ (sl : Slab SlotState). get sl k) c.reserve-3.ensures.rest_kept in
    let grows : Grows c.self.inside.slots c.insert_reserved-key.new.self key v = record { free = sym (same key) ∙ c.insert_reserved-key.ensures.was_vacant; here = c.insert_reserved-key.ensures.updates.changed; others = λ k ne. c.insert_reserved-key.ensures.updates.others k ne ∙ same k } in
    let state = c.in-Ok.ensures.ok ∙ ap (λ (sp : Spec). new_slot sp c.args.me c.args.noticed.now) c.duplicate.ensures in
    let entries = c.put_at.ensures ∙ ap (λ (xs : List (Addr × Place)). set xs place (c.args.addr, Key key)) (c.add_room.ensures.entries ∙ ap (entries_with_room place) c.reserve-2.ensures.entries) in
    let takes = found c.args.addr (groups_of c.self.inside) c.args.self.now c.free_place-place.result c.self.view_is c.self.invariant.1.in_rooms c.requires.can c.free_place-place.ensures in
    let after = put c.args.addr c.self.inside place c.self.invariant takes c.requires.can.tenant c.insert_reserved-key.new.self key v grows (ap (λ (sl : SlotState). length sl.taken) state) (λ m. subst (λ (sl : SlotState). length (payload_in sl.store m) ≤ PAYLOAD) (sym state) (omega arith)) in
    let rows = ap (map (row_of c.insert_reserved-key.new.self)) entries
    ∙ (after.rows
    ∙ (ap (λ (rs : List Row). set rs place (record { addr = c.args.addr; slot = Some v })) (roomed place c.self.inside.places.entries c.self.inside.slots c.self.invariant.0).rows
    ∙ ap (λ (sl : SlotState). set (with_room place old) place (record { addr = c.args.addr; slot = Some sl })) state)) in
    let t = groups_of c.self.inside in
    let s = new_slot c.args.spec.now c.args.me c.args.noticed.now in
    let row : Row = record { addr = c.args.addr; slot = Some s } in
    let is : place ≡ free_place (rank_of c.args.addr t.rooms) t.rows = c.free_place-place.ensures ∙ ap (λ (v : GroupsValue). free_place (rank_of c.args.addr v.rooms) v.rows) (sym c.self.view_is) in
    let rooms = (rw c.unwrap.ensures at c.insert.ensures.entries) ∙ (ap (λ (rs : List (Addr × ℕ)). insert_entry ghosts.eq rs c.name_of.result c.args.addr.generation) c.reserve.ensures.entries ∙ inserted c.name_of.result c.args.addr t.rooms c.name_of.ensures) in
    (λ i. record { rooms = rooms i; rows = rows i; cursors = t.cursors })
    ∙ (ap (λ p. record { rooms = with_made c.args.addr t.rooms; rows = set (with_room p t.rows) p row; cursors = t.cursors }) is ∙ ap (made c.args.addr s) c.self.view_is)
