use Rattle.gb_types.specs.Common.{ap, ◌∙◌}
use Rattle.gb_types.specs.declared.address.Addr.{Addr}
use Rattle.gb_rules.specs.Common.{is_addr}
use Rattle.gb_table.specs.GroupsValue.{GroupsValue}
use Rattle.gb_table.specs.Rooms.{is_passed}
use Rattle.gb_table.proofs.LivingLemmas.{passed_some, passed_none}
use Rattle.gb_table.proofs.groups.Groups.is_passed.Goals as goal

pub returns-in-Some : goal.returns-in-Some
returns-in-Some c =
    passed_some _ c.args.addr c.in-Some.greatest.now c.self.inside.rooms.entries (λ a. ap (λ (n : Addr). is_addr n a) c.name_of.ensures) c.in-Some.ensures.value
    ∙ ap (λ (v : GroupsValue). is_passed c.args.addr v.rooms) c.self.view_is

pub returns-in-None : goal.returns-in-None
returns-in-None c =
    passed_none _ c.args.addr c.self.inside.rooms.entries (λ a. ap (λ (n : Addr). is_addr n a) c.name_of.ensures) c.in-None.ensures.value
    ∙ ap (λ (v : GroupsValue). is_passed c.args.addr v.rooms) c.self.view_is
