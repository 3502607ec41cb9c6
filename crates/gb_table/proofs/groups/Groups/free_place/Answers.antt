use Rattle.gb_types.specs.Common.{length, ap, sym, ◌∙◌, arith}
use Rattle.gb_types.specs.declared.address.Addr.{Addr}
use Rattle.gb_rules.specs.Common.{is_addr}
use Rattle.gb_table.specs.GroupsValue.{GroupsValue}
use Rattle.gb_table.specs.Rooms.{rank_of, free_place}
use Rattle.gb_table.proofs.LivingLemmas.{rank_is}
use Rattle.gb_table.proofs.RoomLemmas.{rank_below}
use Rattle.gb_table.proofs.groups.Groups.free_place.Goals as goal

pub first_free-requires : goal.first_free-requires
first_free-requires c =
    let rank = sym (rank_is _ c.args.addr c.self.inside.rooms.entries (λ a. ap (λ (n : Addr). is_addr n a) c.name_of.ensures)) ∙ (sym c.get_index_of.ensures.index ∙ c.in-Some.is) in
    let below = rank_below c.in-Some.rank c.args.addr c.self.inside.rooms.entries rank in
    let size = c.self.invariant.1.in_rooms.size in
    let same = ap (λ (v : GroupsValue). length v.rows) c.self.view_is in
    omega arith

pub returns-in-Some : goal.returns-in-Some
returns-in-Some c =
    let rank = sym (rank_is _ c.args.addr c.self.inside.rooms.entries (λ a. ap (λ (n : Addr). is_addr n a) c.name_of.ensures)) ∙ (sym c.get_index_of.ensures.index ∙ c.in-Some.is) in
    c.first_free.ensures ∙ ap (λ o. free_place o c.args.self.now.rows) (sym rank ∙ ap (λ (v : GroupsValue). rank_of c.args.addr v.rooms) c.self.view_is)

pub returns-in-None : goal.returns-in-None
returns-in-None c =
    let rank = sym (rank_is _ c.args.addr c.self.inside.rooms.entries (λ a. ap (λ (n : Addr). is_addr n a) c.name_of.ensures)) ∙ (sym c.get_index_of.ensures.index ∙ c.in-None.is) in
    c.len.ensures ∙ ap (λ o. free_place o c.args.self.now.rows) (sym rank ∙ ap (λ (v : GroupsValue). rank_of c.args.addr v.rooms) c.self.view_is)
