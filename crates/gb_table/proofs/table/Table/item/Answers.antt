use Rattle.gb_types.specs.Common.{sym, subst}
use Rattle.gb_frame.specs.Packet.{item_of as view_item}
use Rattle.gb_table.specs.SlotsValue.{AreNamed}
use Rattle.gb_table.specs.OwnNode.{AreOwn}
use Rattle.gb_table.proofs.NamedLemmas.{named_came}
use Rattle.gb_table.proofs.OwnNodeLemmas.{at_came}
use Rattle.gb_table.proofs.RequestLemmas.{within_step}
use Rattle.gb_table.proofs.table.Table.item.Goals as goal

pub invariant_of-self : goal.invariant_of-self
invariant_of-self c = (
  within_step c.self.inside.places c.self.inside.tenants c.self.inside.groups.rooms _ c.item.ensures.rooms c.self.invariant.0,
  c.self.invariant.1,
  subst (AreOwn c.self.inside.me c.self.inside.version) (sym c.item.ensures.rows) (at_came c.self.inside.me c.self.inside.version c.args.from (view_item c.args.item) c.self.inside.groups.rows c.self.invariant.2),
  subst (AreNamed c.self.inside.version) (sym c.item.ensures.rows) (named_came c.self.inside.version c.args.from (view_item c.args.item) c.self.inside.groups.rows c.self.invariant.3),
)
