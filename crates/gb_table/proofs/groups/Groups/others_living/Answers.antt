use Rattle.gb_types.specs.Common.{length, ap, sym, subst, ◌∙◌, arith}
use Rattle.gb_types.specs.declared.address.Addr.{Addr}
use Rattle.gb_rules.specs.Common.{is_addr}
use Rattle.gb_table.specs.GroupsValue.{GroupsValue}
use Rattle.gb_table.specs.Rooms.{rank_of, AreInRooms}
use Rattle.gb_table.proofs.LivingLemmas.{rank_is}
use Rattle.gb_table.proofs.RoomLemmas.{rank_below}
use Rattle.gb_table.proofs.InRoomsLemmas.{block_counts, none_counts}
use Rattle.gb_table.proofs.groups.Groups.others_living.Goals as goal

pub living_from-requires-clause-within : goal.living_from-requires-clause-within
living_from-requires-clause-within c =
    let rank = sym (rank_is _ c.args.addr c.self.inside.rooms.entries (λ a. ap (λ (n : Addr). is_addr n a) c.name_of.ensures)) ∙ (sym c.get_index_of.ensures.index ∙ c.in-Some.is) in
    let below = rank_below c.in-Some.rank c.args.addr c.self.inside.rooms.entries rank in
    let size = c.self.invariant.1.in_rooms.size in
    let same = ap (λ (v : GroupsValue). length v.rows) c.self.view_is in
    omega arith

pub living_from-requires-clause-few : goal.living_from-requires-clause-few
living_from-requires-clause-few c = let few = (c.self.invariant.1.index.each 0 (omega arith)).few in let same = ap (λ (v : GroupsValue). length v.rows) c.self.view_is in omega arith

pub returns-in-Some : goal.returns-in-Some
returns-in-Some c =
    let rank = sym (rank_is _ c.args.addr c.self.inside.rooms.entries (λ a. ap (λ (n : Addr). is_addr n a) c.name_of.ensures)) ∙ (sym c.get_index_of.ensures.index ∙ c.in-Some.is) in
    let now = c.args.self.now in
    c.living_from.ensures ∙ sym (block_counts c.args.addr c.in-Some.rank now.rooms now.rows (subst (λ (v : GroupsValue). AreInRooms v.rooms v.rows) c.self.view_is c.self.invariant.1.in_rooms) (ap (λ (v : GroupsValue). rank_of c.args.addr v.rooms) (sym c.self.view_is) ∙ rank))

pub returns-in-None : goal.returns-in-None
returns-in-None c =
    let rank = sym (rank_is _ c.args.addr c.self.inside.rooms.entries (λ a. ap (λ (n : Addr). is_addr n a) c.name_of.ensures)) ∙ (sym c.get_index_of.ensures.index ∙ c.in-None.is) in
    let now = c.args.self.now in
    sym (none_counts c.args.addr now.rooms now.rows (subst (λ (v : GroupsValue). AreInRooms v.rooms v.rows) c.self.view_is c.self.invariant.1.in_rooms) (ap (λ (v : GroupsValue). rank_of c.args.addr v.rooms) (sym c.self.view_is) ∙ rank))
