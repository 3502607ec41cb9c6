-- The groups of a node stay in order, and how many of a room live changes only where one is made or dropped.
use Rattle.gb_types.specs.Common.{◌≡◌, ℕ, inl, inr, List, [], ◌∷◌, refl, ap, ◌∙◌, ◌&&◌, not, fold, nat_eq, nat_lt, nat_cmp, cases_Bool, message_of}
use Rattle.std.specs.FinSet as set
use Rattle.gb_types.specs.declared.{address.Addr.Addr, limits.TheConstants.NODES, node.NodeId.NodeId, reply.Reply.Reply, request.Request.Request, request.Action.Action, request.Action.TheVariants.AddTenant, request.Action.TheVariants.Group, request.GroupCommand.GroupCommand}
use Rattle.gb_types.specs.declared.reply.Reply.TheVariants.{Done, Said, Log, Refused}
use Rattle.gb_types.specs.declared.request.GroupCommand.TheVariants.{Make, Open, Shut, Drop, Say, Fetch}
use Rattle.gb_rules.specs.Common.{is_too_long}
use Rattle.gb_rules.specs.declared.phase.Phase.TheVariants.{Opened, Shut as Closed}
use Rattle.gb_frame.specs.declared.item.Item.{Item}
use Rattle.gb_frame.specs.Common.{address_of, entry_of}
use Rattle.gb_link.specs.Common.{Received, admission}
use Rattle.gb_link.specs.declared.{receiver.Admission.Admission, receiver.Admission.TheVariants.First, receiver.Admission.TheVariants.Seen, receiver.Admission.TheVariants.Outside}
use Rattle.gb_slot.specs.Common.{new_slot, slot_moved, slot_said, slot_noticed, slot_came, slot_done}
use Rattle.gb_table.specs.Common.{item_came, AreInOrder, StayInOrder, EachCount, GroupsValue, others_living, TableValue, table_noticed, admitted_reply, groups_done, groups_said, request_done, table_did, table_reply}
use Rattle.gb_node.specs.NodeStep.{node_numbered, item_done, frame_done, item_comes, items_come, frame_comes, notice_each}
use Rattle.gb_node.specs.PastGroups.{living_after, living_done}
use Rattle.gb_node.specs.declared.{answer.NodeAnswer.TheVariants.Reply as Replied, event.NodeEvent.TheVariants.Request as Asked}
use Rattle.gb_node.proofs.AskedLemmas.{AreWithinLimits, can_make, done_is, dropped_there}

-- No two groups have one address, and each room has its places.

module _ (law : StayInOrder) where
  command_order : (noticed : set.FinSet nat_cmp) (addr : Addr) (command : GroupCommand) (t : TableValue) → AreInOrder t.groups → AreWithinLimits t.tenants → Done ≡ admitted_reply (Group addr command) t → AreInOrder (groups_done t.me noticed addr command t.groups)
  command_order noticed addr (Make spec) t order limits is = law.added addr (new_slot spec t.me noticed) t.groups order (can_make t addr spec limits is)
  command_order noticed addr Open t order limits is = law.addressed addr (slot_moved Opened Done) t.groups order
  command_order noticed addr Shut t order limits is = law.addressed addr (slot_moved Closed Done) t.groups order
  command_order noticed addr Drop t order limits is = law.erased addr t.groups order
  command_order noticed addr (Say message) t order limits is = order
  command_order noticed addr (Fetch from most) t order limits is = order

  said_order : (seq : ℕ) (what : Action) (groups : GroupsValue) → AreInOrder groups → AreInOrder (groups_said seq what groups)
  said_order seq (AddTenant row) groups order = order
  said_order seq (Group addr (Make spec)) groups order = order
  said_order seq (Group addr Open) groups order = order
  said_order seq (Group addr Shut) groups order = order
  said_order seq (Group addr Drop) groups order = order
  said_order seq (Group addr (Say message)) groups order = law.addressed addr (slot_said message.payload (Said seq)) groups order
  said_order seq (Group addr (Fetch from most)) groups order = order

  pub did_order : (noticed : set.FinSet nat_cmp) (r : Request) (reply : Reply) (t : TableValue) → AreInOrder t.groups → AreWithinLimits t.tenants → reply ≡ table_reply r t → AreInOrder (table_did noticed reply r.what t).groups
  did_order noticed r Done t order limits is = by r.what (done_is r t is)
    where
      by : (what : Action) → Done ≡ admitted_reply what t → AreInOrder (request_done noticed what t).groups
      by (AddTenant row) is = order
      by (Group addr command) is = command_order noticed addr command t order limits is
  did_order noticed r (Said seq) t order limits is = said_order seq r.what t.groups order
  did_order noticed r (Log entries) t order limits is = order
  did_order noticed r (Refused why) t order limits is = order

  order_all : {X : Type 0} (step : TableValue → X → TableValue) → ((t : TableValue) (x : X) → AreInOrder t.groups → AreInOrder (step t x).groups) → (t : TableValue) (xs : List X) → AreInOrder t.groups → AreInOrder (fold step t xs).groups
  order_all step one t [] order = order
  order_all step one t (x ∷ xs) order = order_all step one (step t x) xs (one t x order)

  item_done_order : (from : NodeId) (t : TableValue) (i : Item) → AreInOrder t.groups → AreInOrder (item_done from t i).groups
  item_done_order from t i order = elim (cases_Bool (nat_lt i.origin NODES)) [
    | inl h ↦ rw h (law.addressed (address_of i) (slot_done from (message_of (entry_of i))) t.groups order)
    | inr h ↦ rw h order
  ]

  pub frames_done_order : (from : NodeId) (t : TableValue) (us : List (ℕ × List Item)) → AreInOrder t.groups → AreInOrder (fold (frame_done from) t us).groups
  frames_done_order from t us order = order_all (frame_done from) (λ t u order. order_all (item_done from) (item_done_order from) t u.1 order) t us order

  item_comes_order : (from : NodeId) (t : TableValue) (i : Item) → AreInOrder t.groups → AreInOrder (item_comes from t i).groups
  item_comes_order from t i order = elim (cases_Bool (nat_lt i.origin NODES && not (is_too_long t.version i.payload))) [
    | inl h ↦ rw h (law.addressed (address_of i) (slot_came from (entry_of i)) t.groups order)
    | inr h ↦ rw h order
  ]

  pub frame_comes_order : (from : NodeId) (n : ℕ) (is : List Item) (r : Received) (t : TableValue) → AreInOrder t.groups → AreInOrder (frame_comes from n is r t).groups
  frame_comes_order from n is r t order = elim (cases_Bool (nat_eq n 0)) [
    | inl h ↦ rw h order
    | inr h ↦ rw h (by (admission r n))
  ]
    where
      by : (a : Admission) → AreInOrder (items_come from is a t).groups
      by First = order_all (item_comes from) (item_comes_order from) t is order
      by Seen = order
      by Outside = order

  pub notices_order : (t : TableValue) (found : List ℕ) → AreInOrder t.groups → AreInOrder (notice_each t found).groups
  notices_order t found order = order_all (λ t b. table_noticed (node_numbered b) t) (λ t b order. law.every (slot_noticed (node_numbered b)) t.groups order) t found order

-- The number of other generations of a group's room that live.

module _ (law : EachCount) (g : Addr) where
  command_living : (noticed : set.FinSet nat_cmp) (addr : Addr) (command : GroupCommand) (t : TableValue) → AreInOrder t.groups → AreWithinLimits t.tenants → Done ≡ admitted_reply (Group addr command) t
      → others_living g (groups_done t.me noticed addr command t.groups).rows ≡ living_done g (Group addr command) (others_living g t.groups.rows)
  command_living noticed addr (Make spec) t order limits is = law.added g addr (new_slot spec t.me noticed) t.groups order (can_make t addr spec limits is)
  command_living noticed addr Open t order limits is = law.addressed g addr (slot_moved Opened Done) t.groups.rows
  command_living noticed addr Shut t order limits is = law.addressed g addr (slot_moved Closed Done) t.groups.rows
  command_living noticed addr Drop t order limits is = let there = dropped_there t addr is in law.erased g addr there.0 t.groups order there.1
  command_living noticed addr (Say message) t order limits is = refl
  command_living noticed addr (Fetch from most) t order limits is = refl

  said_living : (seq : ℕ) (what : Action) (groups : GroupsValue) → others_living g (groups_said seq what groups).rows ≡ others_living g groups.rows
  said_living seq (AddTenant row) groups = refl
  said_living seq (Group addr (Make spec)) groups = refl
  said_living seq (Group addr Open) groups = refl
  said_living seq (Group addr Shut) groups = refl
  said_living seq (Group addr Drop) groups = refl
  said_living seq (Group addr (Say message)) groups = law.addressed g addr (slot_said message.payload (Said seq)) groups.rows
  said_living seq (Group addr (Fetch from most)) groups = refl

  pub did_living : (noticed : set.FinSet nat_cmp) (r : Request) (reply : Reply) (t : TableValue) → AreInOrder t.groups → AreWithinLimits t.tenants → reply ≡ table_reply r t
      → others_living g (table_did noticed reply r.what t).groups.rows ≡ living_after g (Asked r) (Replied reply) (others_living g t.groups.rows)
  did_living noticed r Done t order limits is = by r.what (done_is r t is)
    where
      by : (what : Action) → Done ≡ admitted_reply what t → others_living g (request_done noticed what t).groups.rows ≡ living_done g what (others_living g t.groups.rows)
      by (AddTenant row) is = refl
      by (Group addr command) is = command_living noticed addr command t order limits is
  did_living noticed r (Said seq) t order limits is = said_living seq r.what t.groups
  did_living noticed r (Log entries) t order limits is = refl
  did_living noticed r (Refused why) t order limits is = refl

  living_all : {X : Type 0} (step : TableValue → X → TableValue) → ((t : TableValue) (x : X) → others_living g (step t x).groups.rows ≡ others_living g t.groups.rows) → (t : TableValue) (xs : List X) → others_living g (fold step t xs).groups.rows ≡ others_living g t.groups.rows
  living_all step one t [] = refl
  living_all step one t (x ∷ xs) = living_all step one (step t x) xs ∙ one t x

  item_done_living : (from : NodeId) (t : TableValue) (i : Item) → others_living g (item_done from t i).groups.rows ≡ others_living g t.groups.rows
  item_done_living from t i = elim (cases_Bool (nat_lt i.origin NODES)) [
    | inl h ↦ rw h (law.addressed g (address_of i) (slot_done from (message_of (entry_of i))) t.groups.rows)
    | inr h ↦ rw h refl
  ]

  pub frames_done_living : (from : NodeId) (t : TableValue) (us : List (ℕ × List Item)) → others_living g (fold (frame_done from) t us).groups.rows ≡ others_living g t.groups.rows
  frames_done_living from t us = living_all (frame_done from) (λ t u. living_all (item_done from) (item_done_living from) t u.1) t us

  item_comes_living : (from : NodeId) (t : TableValue) (is : List Item) → others_living g (fold (item_comes from) t is).groups.rows ≡ others_living g t.groups.rows
  item_comes_living from t is = ap (others_living g) (rows_are t is) ∙ law.arrived t.version g from is t.groups.rows
    where
      rows_are : (t : TableValue) (is : List Item) → (fold (item_comes from) t is).groups.rows ≡ fold (λ rows i. item_came t.version from i rows) t.groups.rows is
      rows_are t [] = refl
      rows_are t (i ∷ is) = rows_are (item_comes from t i) is

  pub frame_comes_living : (from : NodeId) (n : ℕ) (is : List Item) (r : Received) (t : TableValue) → others_living g (frame_comes from n is r t).groups.rows ≡ others_living g t.groups.rows
  frame_comes_living from n is r t = elim (cases_Bool (nat_eq n 0)) [
    | inl h ↦ rw h refl
    | inr h ↦ rw h (by (admission r n))
  ]
    where
      by : (a : Admission) → others_living g (items_come from is a t).groups.rows ≡ others_living g t.groups.rows
      by First = item_comes_living from t is
      by Seen = refl
      by Outside = refl

  pub notices_living : (t : TableValue) (found : List ℕ) → others_living g (notice_each t found).groups.rows ≡ others_living g t.groups.rows
  notices_living t found = living_all (λ t b. table_noticed (node_numbered b) t) (λ t b. law.every g (slot_noticed (node_numbered b)) t.groups.rows) t found
