use Rattle.gb_types.specs.Common.{common_steps, sym, subst, arith}
use Rattle.gb_rules.specs.declared.phase.Phase.TheVariants.{Shut}
use Rattle.gb_slot.specs.Common.{slot_moved}
use Rattle.gb_table.specs.SlotsValue.{AreNamed}
use Rattle.gb_table.specs.OwnNode.{AreOwn}
use Rattle.gb_table.proofs.NamedLemmas.{named_address}
use Rattle.gb_table.proofs.OwnNodeLemmas.{at_address, own-moved}
use Rattle.gb_table.proofs.RequestLemmas.{within_step}
use Rattle.gb_table.proofs.table.Table.shut_group.Goals as goal

pub invariant_of-self : goal.invariant_of-self
invariant_of-self c =
    let step = slot_moved Shut c.shut_group.result in (
      within_step c.self.inside.places c.self.inside.tenants c.self.inside.groups.rooms _ c.shut_group.ensures.rooms c.self.invariant.0,
      c.self.invariant.1,
      subst (AreOwn c.self.inside.me c.self.inside.version) (sym c.shut_group.ensures.rows) (at_address c.self.inside.me c.self.inside.version c.args.addr step c.self.inside.groups.rows (own-moved c.self.inside.me c.self.inside.version Shut c.shut_group.result) c.self.invariant.2),
      subst (AreNamed c.self.inside.version) (sym c.shut_group.ensures.rows) (named_address c.self.inside.version c.args.addr step c.self.inside.groups.rows c.self.invariant.3),
    )

pub returns-clause-state : goal.returns-clause-state
returns-clause-state c = grind (arith, common_steps)
