use Rattle.gb_types.specs.Common.{◌∷◌, sym, ◌∙◌, ap, subst}
use Rattle.gb_merge.specs.Fed.{kept, IsReady}
use Rattle.gb_merge.proofs.FedLemmas.{kept-some, kept-short}
use Rattle.gb_merge.proofs.rest.Rest.take.Goals as goal

pub returns-in_err-first : goal.returns-in_err-first
returns-in_err-first c =
    rw (c.from_residual.ensures) (sym c.self.view_is ∙ kept-short c.self.inside.skips c.self.inside.entries.now c.in_err-first.ensures.cases)

pub returns : goal.returns
returns c =
    let skips = c.self.inside.skips in
    let first = c.in_ok-first.first.now in
    let rest = c.in_ok-first.rest.now in
    let is = c.in_ok-first.ensures.cases.0 in
    let ready : IsReady skips (first ∷ rest) = subst (IsReady skips) is c.self.invariant in
    sym c.self.view_is ∙ (ap (kept skips) is ∙ (kept-some skips first rest ready ∙ ap (λ left. first ∷ left) (sym c.after_skipped-self-inside.ensures.same)))
