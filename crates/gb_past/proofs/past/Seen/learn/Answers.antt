use Rattle.std.proofs.Common.{◌≡◌, ℕ, sym, ◌∙◌, ap, subst}
use mathlib.Core.List.{IsPrefix}
use Rattle.gb_past.specs.Marks.{last_past, entries_from}
use Rattle.gb_past.proofs.Lists.{prefix_trans}
use Rattle.gb_past.proofs.Walks.{entries_from-prefix}
use Rattle.gb_past.proofs.Steps.{looks_moves}
use Rattle.gb_past.proofs.past.Seen.learn.Goals as goal

pub compare_exchange-requires : goal.compare_exchange-requires
compare_exchange-requires g c =
    let own = c.past.invariant in
    let offer = c.plain-offer.ensures in
    let book : c.past.inside.head.book ≡ c.past.inside.marks.book = ap (λ w. w.book) own.head_is in (
      ap (λ w. w.tracked) own.head_is,
      c.learn.ensures.0 ∙ (ap (λ s. s.book) c.again-both.ensures ∙ sym book),
      own.pen_is ∙ sym book,
      offer.0,
      rw (ap (λ w. w.key) own.head_is, offer.3) (looks_moves c.learn.new.self.log c.past.inside.pen.nib c.plain-offer.result.ask own.writes),
    )

pub returns-clause-before : goal.returns-clause-before
returns-clause-before g c =
    let own = c.past.invariant in
    let mine = c.self.inside.marks.log in
    let known = c.past.inside.marks.log in
    let both = c.learn.new.self.log in
    let all = c.compare_exchange.new.seen.log in
    let k : ℕ = last_past known in
    let same : last_past mine ≡ k = ap (λ s. s.book.1) c.self.view_is ∙ (ap (λ b. b.1) c.requires ∙ sym (ap (λ s. s.book.1) c.past.view_is)) in
    let copy = ap (λ s. s.log) c.again-both.ensures in
    let begins : IsPrefix known both = subst (λ t. IsPrefix t both) copy c.learn.ensures.2 in
    let none : entries_from k all ≡ entries_from k known = c.compare_exchange.ensures.7.1 k known begins (sym own.key) in
    let grows : IsPrefix (entries_from k mine) (entries_from k all) = entries_from-prefix k mine all (prefix_trans mine both all c.learn.ensures.3 c.compare_exchange.ensures.6) in
    let whole : IsPrefix (entries_from k mine) (entries_from k known) = subst (λ t. IsPrefix (entries_from k mine) t) none grows in
    let shown : c.again.result.log ≡ known = ap (λ s. s.log) c.again.ensures in
    rw (← c.self.view_is, shown, same) whole
