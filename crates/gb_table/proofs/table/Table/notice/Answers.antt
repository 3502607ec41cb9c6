use Rattle.gb_types.specs.Common.{sym, subst}
use Rattle.gb_slot.specs.Common.{slot_noticed}
use Rattle.gb_table.specs.SlotsValue.{AreNamed}
use Rattle.gb_table.specs.OwnNode.{AreOwn}
use Rattle.gb_table.proofs.NamedLemmas.{named_stepped}
use Rattle.gb_table.proofs.OwnNodeLemmas.{at_noticed}
use Rattle.gb_table.proofs.RequestLemmas.{within_step}
use Rattle.gb_table.proofs.table.Table.notice.Goals as goal

pub invariant_of-self : goal.invariant_of-self
invariant_of-self c = (
  within_step c.self.inside.places c.self.inside.tenants c.self.inside.groups.rooms _ c.notice.ensures.rooms c.self.invariant.0,
  c.self.invariant.1,
  subst (AreOwn c.self.inside.me c.self.inside.version) (sym c.notice.ensures.rows) (at_noticed c.self.inside.me c.self.inside.version c.args.who c.self.inside.groups.rows c.self.invariant.2),
  subst (AreNamed c.self.inside.version) (sym c.notice.ensures.rows) (named_stepped c.self.inside.version (slot_noticed c.args.who) c.self.inside.groups.rows c.self.invariant.3),
)
