use Rattle.gb_types.specs.Common.{◌≡◌, ℕ, ◌+◌, ◌<◌, ◌≤◌, ◌++◌, List, length, map, vec_capacity, ap, ◌∙◌, sym, subst, length-map, message_of}
use Rattle.gb_types.specs.declared.message.MsgId.{MsgId}
use Rattle.gb_layer.specs.Common.{messages, told, Names, MayTake, IsNext, told_after, message_at}
use Rattle.gb_stack.specs.{Layers.stack_of, Layers.StackKnows, StackState.stack_next, StackState.stack_gives}
use Rattle.gb_slot.specs.Outgoing.{are_below}
use Rattle.gb_slot.proofs.broadcast.take_call.Goals as goal

pub take_placed-requires-clause-there : goal.take_placed-requires-clause-there
take_placed-requires-clause-there c = subst (λ (ms : List MsgId). Names (λ p. p < length ms) c.args.call) (sym c.index.ensures) c.requires.there

pub take_placed-requires-clause-known : goal.take_placed-requires-clause-known
take_placed-requires-clause-known c = subst (λ (ms : List MsgId). MayTake (StackKnows ms c.args.stack.now) c.args.call) (sym c.index.ensures) c.requires.known

pub take_placed-requires-clause-log : goal.take_placed-requires-clause-log
take_placed-requires-clause-log c = subst (λ (ms : List MsgId). length c.args.log.now.items + length (stack_gives (stack_of ms c.args.stack.now) (told ms c.args.call)).ups ≤ vec_capacity c.args.log.now) (sym c.index.ensures) c.requires.log

pub take_placed-requires-clause-outgoing : goal.take_placed-requires-clause-outgoing
take_placed-requires-clause-outgoing c = subst (λ (ms : List MsgId). length c.args.outgoing.now.items + length (stack_gives (stack_of ms c.args.stack.now) (told ms c.args.call)).sends ≤ vec_capacity c.args.outgoing.now) (sym c.index.ensures) c.requires.outgoing

pub returns-clause-meaning : goal.returns-clause-meaning
returns-clause-meaning c = subst (λ (ms : List MsgId). stack_of ms c.take_placed.new.layer ≡ stack_next (stack_of ms c.args.stack.now) (told ms c.args.call)) c.index.ensures c.take_placed.ensures.meaning

pub returns-clause-known : goal.returns-clause-known
returns-clause-known c = subst (λ (ms : List MsgId). (n w : ℕ) → StackKnows ms c.args.stack.now n w → Names (IsNext n w) c.args.call → StackKnows ms c.take_placed.new.layer (told_after n c.args.call) w) c.index.ensures c.take_placed.ensures.known

pub returns-clause-log : goal.returns-clause-log
returns-clause-log c = subst (λ (ms : List MsgId). c.take_placed.new.log.items ≡ c.args.log.now.items ++ messages (stack_gives (stack_of ms c.args.stack.now) (told ms c.args.call)).ups) c.index.ensures c.take_placed.ensures.log

pub returns-clause-outgoing : goal.returns-clause-outgoing
returns-clause-outgoing c = subst (λ (ms : List MsgId). map (message_at ms) c.take_placed.new.outgoing.items ≡ map (message_at ms) c.args.outgoing.now.items ++ (stack_gives (stack_of ms c.args.stack.now) (told ms c.args.call)).sends) c.index.ensures c.take_placed.ensures.outgoing

pub returns-clause-places : goal.returns-clause-places
returns-clause-places c = λ inside.
    let count : length c.index.result.now.list.items ≡ length c.args.store.now.entries = ap length c.index.ensures ∙ length-map c.args.store.now.entries message_of in
    subst (λ (n : ℕ). are_below n c.take_placed.new.outgoing.items ≡ are_below n c.args.outgoing.now.items) count c.take_placed.ensures.places ∙ inside
