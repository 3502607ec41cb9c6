use Rattle.gb_types.specs.Common.{rules, ◌≡◌, ap, ◌∙◌}
use Rattle.gb_spelling.specs.Common.{payload_of, payload_word}
use Rattle.gb_spelling.proofs.PayloadLemmas.{payload_of-payload_word}
use Rattle.gb_client.proofs.ReplyLemmas.{none_is_not_some}
use Rattle.gb_client.proofs.answer.read_written.Goals as goal

pub returns-in_default-clause-none : goal.returns-in_default-clause-none
returns-in_default-clause-none c = λ payload fits is.
    let some = c.in_ok-payload.ensures ∙ (ap payload_of is ∙ payload_of-payload_word payload fits) in
    none_is_not_some payload (rw c.in_default.is at some)

pub returns-clause-none : goal.returns-clause-none
returns-clause-none c = λ payload fits is.
    let some = c.in_ok-payload.ensures ∙ (ap payload_of is ∙ payload_of-payload_word payload fits) in
    let same : payload ≡ c.in-Some.payload = cc in
    let here = is ∙ ap payload_word same in
    search rules
