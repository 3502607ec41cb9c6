use Rattle.gb_types.specs.Common.{Bor, ◌++◌, ◌∷◌, [], ap, map}
use Rattle.clap.specs.Words.{Text}
use Rattle.gb_serve_words.proofs.RowLemmas.{if_none, unfinished, unplaced}
use Rattle.gb_serve_words.proofs.limits.+with_uses.Goals as goal

pub returns-in-None-with_use-clause-none : goal.returns-in-None-with_use-clause-none
returns-in-None-with_use-clause-none t c = λ uses more are written fit.
    unplaced uses c.args.taken (map (λ (t : Bor Text). t.now) c.args.texts.now) (map (λ (t : Bor Text). t.now) c.in-Some.rest.now) c.in-Some.first.now.now c.in-Some-use_of.one more
    (ap (map (λ (t : Bor Text). t.now)) c.in-Some.ensures.cases.0) c.in-Some-use_of.ensures (c.in-None-with_use.ensures.none uses are) written fit

pub returns-in-Some-with_use-clause-none : goal.returns-in-Some-with_use-clause-none
returns-in-Some-with_use-clause-none t c = if_none c.with_uses.result (λ none uses more are written fit.
    unfinished uses (map (λ (t : Bor Text). t.now) c.args.texts.now) (map (λ (t : Bor Text). t.now) c.in-Some.rest.now) c.in-Some.first.now.now c.in-Some-use_of.one more
    (ap (map (λ (t : Bor Text). t.now)) c.in-Some.ensures.cases.0) c.in-Some-use_of.ensures
    (λ us w f. none (uses ++ c.in-Some-use_of.one ∷ []) us (c.in-Some-with_use.ensures.some uses are) w f) written fit) c.with_uses.ensures.none
