use Rattle.gb_types.specs.Common.{ap, sym, subst, ◌≤◌, length, All, limits_of}
use Rattle.gb_frame.specs.declared.item.Item.{Item}
use Rattle.gb_table.specs.GroupsValue.{GroupsValue, batch}
use Rattle.gb_table.specs.Packing.{items}
use Rattle.gb_table.specs.SlotsValue.{AreNamed}
use Rattle.gb_table.proofs.ShortLemmas.{batch_short}
use Rattle.gb_table.specs.TableValue.{TableValue}
use Rattle.gb_table.specs.OwnNode.{AreOwn}
use Rattle.gb_table.proofs.NamedLemmas.{named_gave}
use Rattle.gb_table.proofs.OwnNodeLemmas.{at_gave, short_rows}
use Rattle.gb_table.proofs.RequestLemmas.{within_step}
use Rattle.gb_table.proofs.table.Table.pack_into.Goals as goal

pub pack_into-requires-clause-named : goal.pack_into-requires-clause-named
pack_into-requires-clause-named c = c.self.invariant.3

pub invariant_of-self : goal.invariant_of-self
invariant_of-self c =
    let taken = batch c.self.inside.version c.args.dest.number c.args.room c.self.inside.groups in
    let rows = ap (λ (v : GroupsValue). v.rows) c.pack_into.ensures.state in (
      within_step c.self.inside.places c.self.inside.tenants c.self.inside.groups.rooms _ (ap (λ (v : GroupsValue). v.rooms) c.pack_into.ensures.state) c.self.invariant.0,
      c.self.invariant.1,
      subst (AreOwn c.self.inside.me c.self.inside.version) (sym rows) (at_gave c.self.inside.me c.self.inside.version c.args.dest.number 0 taken c.self.inside.groups.rows c.self.invariant.2),
      subst (AreNamed c.self.inside.version) (sym rows) (named_gave c.self.inside.version c.args.dest.number 0 taken c.self.inside.groups.rows c.self.invariant.3),
    )

pub returns-clause-payloads : goal.returns-clause-payloads
returns-clause-payloads c =
    subst (λ (t : TableValue). All (λ (i : Item). length i.payload ≤ (limits_of t.version).payload) (items t.groups.rows (batch t.version c.args.dest.number c.args.room t.groups))) c.self.view_is
    (batch_short c.self.inside.version (limits_of c.self.inside.version).payload c.args.dest.number c.args.room c.self.inside.groups (short_rows c.self.inside.me c.self.inside.version c.self.inside.groups.rows c.self.invariant.2))
