use Rattle.gb_types.specs.Common.{◌∙◌, sym, ap, arith}
use Rattle.std.specs.FinSet as set
use Rattle.gb_link.proofs.ReceivedLemmas.{admission_seen, admission_outside, admission_first, covered_first, first_in_range}
use Rattle.gb_link.proofs.receiver.Receiver.admit.Goals as goal

pub returns-then-covers-clause-answer : goal.returns-then-covers-clause-answer
returns-then-covers-clause-answer c = rw (← c.self.view_is) (sym (admission_seen _ _ _ c.self.invariant c.requires (sym c.covers.ensures ∙ c.if-covers.true)))

pub returns-then-ahead-ge-LINK_WINDOW-clause-answer : goal.returns-then-ahead-ge-LINK_WINDOW-clause-answer
returns-then-ahead-ge-LINK_WINDOW-clause-answer c =
    rw (← c.self.view_is) (sym (admission_outside _ _ _ c.self.invariant c.requires (sym c.covers.ensures ∙ c.if-covers.false) c.then-ahead-ge-LINK_WINDOW.either))

pub slid-base-requires-clause-last : goal.slid-base-requires-clause-last
slid-base-requires-clause-last c =
    first_in_range _ _ _ c.self.invariant (sym c.covers.ensures ∙ c.if-covers.false) c.if-ahead-ge-LINK_WINDOW.false c.if-number-gt-LAST_FRAME.false

pub invariant_of-self : goal.invariant_of-self
invariant_of-self c = record {
  started = c.slid-base.ensures.started;
  word = omega arith;
  even = c.slid-base.ensures.even;
  last = (λ n there.
      first_in_range _ _ c.args.number c.self.invariant (sym c.covers.ensures ∙ c.if-covers.false) c.if-ahead-ge-LINK_WINDOW.false c.if-number-gt-LAST_FRAME.false n
      (ap (λ s. set.contains s n) (sym c.slid-base.ensures.same) ∙ there));
}

pub returns-clause-answer : goal.returns-clause-answer
returns-clause-answer c =
    rw (← c.self.view_is) (sym (admission_first _ _ _ c.self.invariant c.requires (sym c.covers.ensures ∙ c.if-covers.false) c.if-ahead-ge-LINK_WINDOW.false c.if-number-gt-LAST_FRAME.false))

pub returns-clause-after : goal.returns-clause-after
returns-clause-after c =
    rw (← c.self.view_is) (c.slid-base.ensures.same ∙ covered_first _ _ c.args.number c.self.invariant (sym c.covers.ensures ∙ c.if-covers.false) c.if-ahead-ge-LINK_WINDOW.false)
