use Rattle.gb_types.specs.Common.{◌≡◌, sym, subst, ◌∙◌}
use Rattle.gb_slot.specs.Common.{slot_done}
use Rattle.gb_table.specs.SlotsValue.{AreNamed}
use Rattle.gb_table.specs.TableValue.{TableValue, table_done}
use Rattle.gb_table.specs.OwnNode.{AreOwn}
use Rattle.gb_table.proofs.NamedLemmas.{named_address}
use Rattle.gb_table.proofs.OwnNodeLemmas.{at_address, own-done, table_unchanged}
use Rattle.gb_table.proofs.RequestLemmas.{within_step}
use Rattle.gb_table.proofs.table.Table.done.Goals as goal

pub invariant_of-self : goal.invariant_of-self
invariant_of-self c =
    let step = slot_done c.args.dest c.args.m in (
      within_step c.self.inside.places c.self.inside.tenants c.self.inside.groups.rooms _ c.done.ensures.rooms c.self.invariant.0,
      c.self.invariant.1,
      subst (AreOwn c.self.inside.me c.self.inside.version) (sym c.done.ensures.rows) (at_address c.self.inside.me c.self.inside.version c.args.addr step c.self.inside.groups.rows (own-done c.self.inside.me c.self.inside.version c.args.dest c.args.m) c.self.invariant.2),
      subst (AreNamed c.self.inside.version) (sym c.done.ensures.rows) (named_address c.self.inside.version c.args.addr step c.self.inside.groups.rows c.self.invariant.3),
    )

pub returns-then-ne-clause-state : goal.returns-then-ne-clause-state
returns-then-ne-clause-state c =
    let t : TableValue = record { me = c.self.inside.me; nodes = c.self.inside.nodes; version = c.self.inside.version; places = c.self.inside.places; admin_key = c.self.inside.admin_key; tenants = c.self.inside.tenants; groups = c.self.inside.groups } in
    subst (λ (v : TableValue). v ≡ table_done c.args.dest c.args.addr c.args.m v) c.self.view_is (table_unchanged c.args.dest c.args.addr c.args.m t (sym c.if-ne.true ∙ c.ne.ensures) c.self.invariant.2)
