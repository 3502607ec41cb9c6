use Rattle.gb_types.specs.Common.{Err, ap, refl, sym, subst, ◌∙◌, arith}
use Rattle.gb_session.specs.Grammar.{IsRequestText}
use Rattle.gb_client.proofs.request.request_text.Goals as goal

pub returns-in-Ok-clause-spelt : goal.returns-in-Ok-clause-spelt
returns-in-Ok-clause-spelt c = (c.in-Ok.field-0, subst (λ body. IsRequestText body c.in-Ok.field-0) c.deref.ensures.value ((c.in-Ok.ensures.spelt c.in-Ok.field-0).0 refl))

pub returns-in-Err-Malformed-clause-words : goal.returns-in-Err-Malformed-clause-words
returns-in-Err-Malformed-clause-words c = λ e request spelt.
    c.in-Err-Malformed.ensures.malformed (ap Err c.in-Err-Malformed.field-0-is) request (subst (λ body. IsRequestText body request) (sym c.in_ok-body.ensures ∙ sym c.deref.ensures.value) spelt)

pub returns-in-Ok-clause-short : goal.returns-in-Ok-clause-short
returns-in-Ok-clause-short c =
    let spelt : IsRequestText c.deref.result.now c.in-Ok.field-0 = (c.in-Ok.ensures.spelt c.in-Ok.field-0).0 refl in
    omega (arith, spelt.short, c.deref.ensures.len)
