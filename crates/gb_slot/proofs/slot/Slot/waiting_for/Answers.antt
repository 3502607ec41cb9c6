use Rattle.gb_types.specs.Common.{arith, common_steps}
use Rattle.gb_slot.proofs.OutgoingLemmas.{messages_count}
use Rattle.gb_slot.proofs.slot.Slot.waiting_for.Goals as goal

pub returns : goal.returns
returns c = let s = c.self.inside in let all = messages_count s.store.entries s.outgoing.items in grind (arith, common_steps, all)
