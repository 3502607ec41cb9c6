use Rattle.gb_types.specs.Common.{common_steps, sym, subst, arith}
use Rattle.gb_slot.specs.Common.{slot_said}
use Rattle.gb_table.specs.SlotsValue.{AreNamed}
use Rattle.gb_table.specs.OwnNode.{AreOwn}
use Rattle.gb_table.proofs.NamedLemmas.{named_address}
use Rattle.gb_table.proofs.OwnNodeLemmas.{at_address, own-said, said_short}
use Rattle.gb_table.proofs.RequestLemmas.{within_step}
use Rattle.gb_table.proofs.table.Table.say.Goals as goal

pub invariant_of-self : goal.invariant_of-self
invariant_of-self c = (
  within_step c.self.inside.places c.self.inside.tenants c.self.inside.groups.rooms _ c.say.ensures.rooms c.self.invariant.0,
  c.self.invariant.1,
  subst (AreOwn c.self.inside.me c.self.inside.version) (sym c.say.ensures.rows) (at_address c.self.inside.me c.self.inside.version c.args.addr (slot_said _ c.say.result) c.self.inside.groups.rows (own-said c.self.inside.me c.self.inside.version _ c.say.result (said_short c.self.inside.version _ c.args.addr c.self.inside.groups c.say.result c.say.ensures.reply)) c.self.invariant.2),
  subst (AreNamed c.self.inside.version) (sym c.say.ensures.rows) (named_address c.self.inside.version c.args.addr (slot_said _ c.say.result) c.self.inside.groups.rows c.self.invariant.3),
)

pub returns-clause-state : goal.returns-clause-state
returns-clause-state c = grind (arith, common_steps)
