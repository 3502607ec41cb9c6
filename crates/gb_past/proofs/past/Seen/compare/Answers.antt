use Rattle.std.proofs.Common.{◌≡◌, ℕ, sym, ◌∙◌, ap, subst}
use mathlib.Core.List.{IsPrefix}
use Rattle.gb_past.specs.Marks.{last_past, entries_from}
use Rattle.gb_past.proofs.Lists.{prefix_either}
use Rattle.gb_past.proofs.Walks.{entries_from-prefix}
use Rattle.gb_past.proofs.past.Seen.compare.Goals as goal

pub returns : goal.returns
returns g c =
    let mine = c.self.inside.marks.log in
    let other = c.other.inside.marks.log in
    let all = c.learn.new.self.log in
    let k : ℕ = last_past mine in
    let same : last_past other ≡ k = ap (λ s. s.book.1) c.other.view_is ∙ (sym (ap (λ b. b.1) c.requires) ∙ sym (ap (λ s. s.book.1) c.self.view_is)) in
    let copy = ap (λ s. s.log) c.again-both.ensures in
    let begins : IsPrefix mine all = subst (λ t. IsPrefix t all) copy c.learn.ensures.2 in
    let both = prefix_either (entries_from k mine) (entries_from k other) (entries_from k all) (entries_from-prefix k mine all begins) (entries_from-prefix k other all c.learn.ensures.3) in
    rw (← c.self.view_is, ← c.other.view_is, same) both
