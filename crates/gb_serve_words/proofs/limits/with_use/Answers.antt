use Rattle.gb_types.specs.Common.{◌++◌, ◌∷◌, [], Some, slice_set, subst, sym}
use Rattle.gb_serve_words.specs.declared.{limits.LimitUse.LimitUse}
use Rattle.gb_serve_words.specs.Limits.{AreTaken}
use Rattle.gb_serve_words.proofs.RowLemmas.{each_use_refused, each_use_taken, named_use_refused, named_use_taken}
use Rattle.gb_serve_words.proofs.limits.with_use.Goals as goal

pub returns-in-None-each-clause-some : goal.returns-in-None-each-clause-some
returns-in-None-each-clause-some c = λ uses are.
    subst (λ (one : LimitUse). AreTaken (uses ++ one ∷ []) (record { each = Some c.args.one.limit; named = c.args.taken.named }))
    (λ i. record { tenant = sym c.in-None.is i; limit = c.args.one.limit }) (each_use_taken uses c.args.taken c.args.one.limit are c.in-None-each.is)

pub returns-in-Some-each-clause-none : goal.returns-in-Some-each-clause-none
returns-in-Some-each-clause-none c = λ uses are fit. each_use_refused uses c.args.taken c.args.one c.in-Some-each.field-0 are c.in-None.is c.in-Some-each.is fit

pub returns-in-None-free_place-clause-none : goal.returns-in-None-free_place-clause-none
returns-in-None-free_place-clause-none c = λ uses are fit. named_use_refused uses c.args.taken c.args.one c.in-Some.tenant are c.in-Some.is c.in-None-free_place.ensures.none fit

pub returns-in-Some-free_place-clause-some : goal.returns-in-Some-free_place-clause-some
returns-in-Some-free_place-clause-some c = λ uses are.
    subst (λ (one : LimitUse). AreTaken (uses ++ one ∷ [])
    (record { each = c.args.taken.each; named = slice_set c.args.taken.named c.in-Some-free_place.place (Some (record { tenant = c.in-Some.tenant; limit = c.args.one.limit })) }))
    (λ i. record { tenant = sym c.in-Some.is i; limit = c.args.one.limit })
    (named_use_taken uses c.args.taken c.in-Some.tenant c.in-Some-free_place.place c.args.one.limit are c.in-Some-free_place.ensures.free)
