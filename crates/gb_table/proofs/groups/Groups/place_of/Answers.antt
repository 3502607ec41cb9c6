use Rattle.gb_types.specs.Common.{ap, refl, ◌∙◌, position}
use Rattle.gb_rules.specs.Common.{is_addr}
use Rattle.gb_table.specs.SlotsValue.{Row}
use Rattle.gb_table.specs.GroupsValue.{GroupsValue}
use Rattle.gb_table.proofs.FindLemmas.{found_at}
use Rattle.gb_table.proofs.SlotsLemmas.{position-rows}
use Rattle.gb_table.proofs.groups.Groups.place_of.Goals as goal

pub returns-then-is_at-clause-place : goal.returns-then-is_at-clause-place
returns-then-is_at-clause-place c =
    found_at c.args.addr c.self.inside.slots c.self.inside.places.entries c.self.inside.recent c.is_at.result c.self.invariant.0 c.is_at.ensures c.if-is_at.true
    ∙ ap (λ (v : GroupsValue). position (λ (row : Row). is_addr c.args.addr row.addr) v.rows) c.self.view_is

pub returns-then-is_at-2-clause-place : goal.returns-then-is_at-2-clause-place
returns-then-is_at-2-clause-place c =
    found_at c.args.addr c.self.inside.slots c.self.inside.places.entries c.if-next-len.next c.is_at-2.result c.self.invariant.0 c.is_at-2.ensures c.if-is_at-2.true
    ∙ ap (λ (v : GroupsValue). position (λ (row : Row). is_addr c.args.addr row.addr) v.rows) c.self.view_is

pub returns-clause-place : goal.returns-clause-place
returns-clause-place c =
    c.get_index_of.ensures.index ∙ position-rows _ c.args.addr c.self.inside.slots c.self.inside.places.entries (λ a. refl)
    ∙ ap (λ (v : GroupsValue). position (λ (row : Row). is_addr c.args.addr row.addr) v.rows) c.self.view_is
