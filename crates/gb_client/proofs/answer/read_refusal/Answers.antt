use Rattle.gb_types.specs.Common.{rules, ◌≡◌, ap, map, ◌∙◌}
use Rattle.gb_types.specs.declared.reply.Reply.TheVariants.{Refused}
use Rattle.gb_spelling.specs.Common.{reply_spelling, words_of}
use Rattle.gb_client.proofs.ReplyLemmas.{refusal_words_are}
use Rattle.gb_client.proofs.answer.read_refusal.Goals as goal

pub returns-in_default-clause-none : goal.returns-in_default-clause-none
returns-in_default-clause-none c = λ why is.
    let like = c.refusal_like.ensures why (ap (map (λ word. word.now)) c.as_slice.ensures.value ∙ (c.in_ok-words.ensures ∙ (ap words_of is ∙ refusal_words_are why))) in cc

pub returns-clause-none : goal.returns-clause-none
returns-clause-none c = λ why is.
    let like = c.refusal_like.ensures why (ap (map (λ word. word.now)) c.as_slice.ensures.value ∙ (c.in_ok-words.ensures ∙ (ap words_of is ∙ refusal_words_are why))) in
    let same : why ≡ c.in-Some.why = cc in
    let here = is ∙ ap (λ w. reply_spelling (Refused w)) same in
    search rules
