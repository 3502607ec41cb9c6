use Rattle.gb_types.specs.Common.{◌≡◌, ◌∙◌, ℕ, ◌+◌, ◌/◌, List, length, ap, refl, arith}
use Rattle.gb_table.specs.PlaceSet.{has}
use Rattle.gb_table.proofs.PlaceSetLemmas.{lengthened}
use Rattle.gb_table.proofs.place_set.PlaceSet.cover.Goals as goal

pub returns-in_ok-resize-clause-same : goal.returns-in_ok-resize-clause-same
returns-in_ok-resize-clause-same c = λ p.
    let old = c.self.inside.words.items in
    let read = c.in_ok-resize.ensures.by_index in
    let n : length c.resize.new.self.items ≡ c.args.place / 64 + 1 = omega (arith, c.in_ok-resize.ensures.len) in
    lengthened old c.resize.new.self.items (c.args.place / 64 + 1) p (omega (arith, c.if-len-needed.true)) n
    (λ a l. read.0 a 0 (omega (arith, c.if-len-needed.true)) (omega arith))
    (λ a l m. read.1 a 0 refl (omega arith) m)
    ∙ ap (λ (v : List ℕ). has v p) c.self.view_is
