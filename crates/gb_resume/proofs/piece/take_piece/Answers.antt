use Rattle.gb_types.specs.Common.{ℕ, List, [], ◌∷◌, ◌++◌, subst, sym, ◌∙◌}
use Rattle.gb_resume.specs.Read.{HasKept, HasRead}
use Rattle.gb_resume.proofs.KeptLemmas.{Taken, taken_line, taken_rest}
use Rattle.gb_resume.proofs.piece.take_piece.Goals as goal

pub lines-preserved : goal.lines-preserved
lines-preserved c =
    let w = c.args.wanted.now in
    let new = c.take_line.new.begun in
    let u = c.take_line.new.reading in
    let kept = c.args.kept.now.items in
    let piece = c.args.piece.now in
    let behind = c.in-Some.behind.now in
    subst (λ (xs : List ℕ). Taken w c.args.begun.now new c.args.reading.now u kept xs piece behind) (sym c.clear.ensures.items)
    (taken_line w c.args.begun.now c.lines.begun new c.args.reading.now c.lines.reading u kept c.lines.kept.items piece c.lines.rest.now c.in-Some.line.now behind c.lines.invariant c.in-Some.ensures.some
    (λ start before text has. subst (λ (xs : List ℕ). HasRead w start new before u (text ++ (xs ++ 10 ∷ []))) (c.deref.ensures.value ∙ c.in_ok-keep.ensures) (c.in_ok-take_line.ensures.read start before text has))
    c.take_line.ensures.part)

pub returns-clause-kept : goal.returns-clause-kept
returns-clause-kept c = λ start before all has.
    let w = c.args.wanted.now in
    let piece = c.args.piece.now in
    subst (λ (xs : List ℕ). HasKept w start c.lines.begun before c.lines.reading xs (all ++ piece)) (sym c.in_ok-keep-2.ensures)
    (taken_rest w c.args.begun.now c.lines.begun c.args.reading.now c.lines.reading c.args.kept.now.items c.lines.kept.items piece c.lines.rest.now c.lines.invariant c.in_default.ensures.none start before all has)
