-- The laws of a stack: those of its broadcast, or of a fifo over it.
use Rattle.std.proofs.Common.{refl}
use Rattle.gb_layer.specs.declared.call.Call.{Call}
use Rattle.gb_layer.specs.Common.{StaysAtItsNode, ComesFromItsOrigin, SendsWhatWasHandedIn, HandsUpWhatWasHandedIn, HandsUpOnce, SendsOnce, NoticesOnce, Gives}
use Rattle.gb_fifo.specs.FifoLemmas.{fifo_own, fifo_sends_handed_in, fifo_ups_handed_in, fifo_up_once, fifo_sent_once, fifo_noticed_once}
use Rattle.gb_fifo.specs.FifoMachine.{FifoState, IsNew, fifo_next, fifo_gives}
use Rattle.gb_stack.specs.InsideLemmas.{sends_handed_in_into, ups_handed_in_into, up_once_into, sent_once_into, noticed_once_into}
use Rattle.gb_stack.specs.StackState.{UnorderedState, unordered, fifo, unordered_next, unordered_gives, unordered_me, IsUntold, stack_next, stack_gives, stack_me, IsUntoldStack}
use Rattle.gb_stack.specs.UnorderedLemmas.{unordered_me_stays, unordered_own, unordered_sends_handed_in, unordered_ups_handed_in, unordered_up_once, unordered_sent_once, unordered_noticed_once}

-- the step of a fifo over a broadcast without an order
abbrev pub ordered_next : FifoState UnorderedState → Call → FifoState UnorderedState
ordered_next = fifo_next unordered_next unordered_gives

abbrev pub ordered_gives : FifoState UnorderedState → Call → Gives
ordered_gives = fifo_gives unordered_next unordered_gives

pub stack_me_stays : StaysAtItsNode stack_next stack_me
stack_me_stays (unordered s) c = unordered_me_stays s c
stack_me_stays (fifo s) c = unordered_me_stays s.lower c

pub stack_own : ComesFromItsOrigin stack_gives
stack_own (unordered s) c = unordered_own s c
stack_own (fifo s) c = fifo_own unordered_next unordered_gives s c

pub stack_sends_handed_in : SendsWhatWasHandedIn stack_next stack_gives IsUntoldStack
stack_sends_handed_in (unordered s) = sends_handed_in_into unordered_next unordered_gives stack_next stack_gives unordered (λ s c. refl) (λ s c. refl) IsUntold unordered_sends_handed_in s
stack_sends_handed_in (fifo s) =
    sends_handed_in_into ordered_next ordered_gives stack_next stack_gives fifo (λ s c. refl) (λ s c. refl) (IsNew IsUntold) (fifo_sends_handed_in unordered_next unordered_gives IsUntold unordered_sends_handed_in) s

pub stack_ups_handed_in : HandsUpWhatWasHandedIn stack_next stack_gives IsUntoldStack
stack_ups_handed_in (unordered s) = ups_handed_in_into unordered_next unordered_gives stack_next stack_gives unordered (λ s c. refl) (λ s c. refl) IsUntold unordered_ups_handed_in s
stack_ups_handed_in (fifo s) =
    ups_handed_in_into ordered_next ordered_gives stack_next stack_gives fifo (λ s c. refl) (λ s c. refl) (IsNew IsUntold) (fifo_ups_handed_in unordered_next unordered_gives IsUntold) s

pub stack_up_once : HandsUpOnce stack_next stack_gives IsUntoldStack stack_me
stack_up_once (unordered s) = up_once_into unordered_next unordered_gives stack_next stack_gives unordered (λ s c. refl) (λ s c. refl) IsUntold unordered_me unordered_up_once s
stack_up_once (fifo s) =
    up_once_into ordered_next ordered_gives stack_next stack_gives fifo (λ s c. refl) (λ s c. refl) (IsNew IsUntold) (λ r. unordered_me r.lower) (fifo_up_once unordered_next unordered_gives IsUntold unordered_me) s

pub stack_sent_once : SendsOnce stack_next stack_gives IsUntoldStack stack_me
stack_sent_once (unordered s) = sent_once_into unordered_next unordered_gives stack_next stack_gives unordered (λ s c. refl) (λ s c. refl) IsUntold unordered_me unordered_sent_once s
stack_sent_once (fifo s) =
    sent_once_into ordered_next ordered_gives stack_next stack_gives fifo (λ s c. refl) (λ s c. refl) (IsNew IsUntold) (λ r. unordered_me r.lower) (fifo_sent_once unordered_next unordered_gives IsUntold unordered_me unordered_sent_once) s

pub stack_noticed_once : NoticesOnce stack_next stack_gives IsUntoldStack
stack_noticed_once (unordered s) = noticed_once_into unordered_next unordered_gives stack_next stack_gives unordered (λ s c. refl) (λ s c. refl) IsUntold unordered_noticed_once s
stack_noticed_once (fifo s) =
    noticed_once_into ordered_next ordered_gives stack_next stack_gives fifo (λ s c. refl) (λ s c. refl) (IsNew IsUntold) (fifo_noticed_once unordered_next unordered_gives IsUntold unordered_noticed_once) s
