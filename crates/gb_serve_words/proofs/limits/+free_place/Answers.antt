use Rattle.gb_types.specs.Common.{◌∙◌, ◌∷◌, Some, ap}
use Rattle.gb_serve_words.proofs.RowLemmas.{free_first, free_more, full_more, full_same}
use Rattle.gb_serve_words.proofs.limits.+free_place.Goals as goal

pub returns-then-row-tenant-clause-none : goal.returns-then-row-tenant-clause-none
returns-then-row-tenant-clause-none t c =
    full_same c.args.named.now c.in-Some.rest.now c.args.tenant c.in-Some-first.row (c.in-Some.ensures.cases.0 ∙ ap (λ o. o ∷ c.in-Some.rest.now) c.in-Some-first.is) c.if-row-tenant.true

pub returns-in-None-clause-free : goal.returns-in-None-clause-free
returns-in-None-clause-free t c = free_first c.args.named.now c.in-Some.rest.now c.args.tenant (c.in-Some.ensures.cases.0 ∙ ap (λ o. o ∷ c.in-Some.rest.now) c.in-None.is)

pub returns-in-None-free_place-clause-none : goal.returns-in-None-free_place-clause-none
returns-in-None-free_place-clause-none t c =
    full_more c.args.named.now c.in-Some.rest.now c.args.tenant c.in-Some-first.row (c.in-Some.ensures.cases.0 ∙ ap (λ o. o ∷ c.in-Some.rest.now) c.in-Some-first.is)
    c.in-None-free_place.ensures.none

pub returns-in-Some-free_place-clause-free : goal.returns-in-Some-free_place-clause-free
returns-in-Some-free_place-clause-free t c =
    free_more c.args.named.now c.in-Some.rest.now c.args.tenant c.in-Some-free_place.place c.in-Some-first.row
    (c.in-Some.ensures.cases.0 ∙ ap (λ o. o ∷ c.in-Some.rest.now) c.in-Some-first.is) c.if-row-tenant.false c.in-Some-free_place.ensures.free
