use Rattle.gb_types.specs.Common.{List, ap}
use Rattle.gb_frame.specs.declared.item.Item.{Item}
use Rattle.gb_link.specs.Common.{SendWindow, covers}
use Rattle.gb_node.proofs.FrameLemmas.{acked_frame, acked_first, without_batch}
use Rattle.gb_node.proofs.window.Window.acked.Goals as goal

pub invariant_of-self : goal.invariant_of-self
invariant_of-self c = rw c.acked.ensures.done (without_batch c.self.inside.version (λ u. covers c.args.base c.args.mask u.0) c.self.inside.sender.window.undone c.self.invariant)

pub returns-clause-first : goal.returns-clause-first
returns-clause-first c = rw (← c.self.view_is) (acked_first c.self.inside.version c.self.inside.sender.window c.acked.new.self.window c.args.base c.args.mask c.acked.result c.self.invariant c.acked.ensures.handed_out c.acked.ensures.first)

pub returns-clause-done : goal.returns-clause-done
returns-clause-done c = rw (← c.self.view_is, c.acked.ensures.done) (ap (λ (w : SendWindow (List Item)). record { version = c.self.inside.version; window = w }) (acked_frame c.self.inside.version c.self.inside.sender.window c.args.base c.args.mask))
