use Rattle.gb_types.specs.Common.{◌≤◌, [], arith, sym, subst}
use Rattle.gb_stack.specs.{Layers.StackKnows, Stands.HasStarted}
use Rattle.gb_slot.proofs.slot.broadcast.Goals as goal

pub returns-clause-started : goal.returns-clause-started
returns-clause-started c = subst (HasStarted c.args.me c.args.spec.now.members c.args.noticed.now) (sym (c.whole.ensures.meaning [])) c.new-stack.ensures.started

pub returns-clause-known : goal.returns-clause-known
returns-clause-known c =
    let none : 0 ≤ c.message_count.result = omega arith in
    subst (StackKnows [] c.whole.new.self 0) c.message_count.ensures (c.in_ok-whole.ensures.memory [] 0 0 (c.new-stack.ensures.known []) none)
