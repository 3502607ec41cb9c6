use Rattle.gb_types.specs.Common.{sym, ap, map, ◌∙◌}
use Rattle.std.proofs.lemmas.Result.{IfOk-weaker}
use Rattle.gb_client.proofs.ReplyLemmas.{log_found, log_not_found}
use Rattle.gb_client.proofs.answer.read_log.Goals as goal

pub returns-clause-some : goal.returns-clause-some
returns-clause-some c =
    IfOk-weaker c.log_of.result _ _
    (λ found some. log_found c.args.text.now _ found (sym c.in_ok-words.ensures ∙ ap (map (λ word. word.now)) (sym c.as_slice.ensures.value)) some)
    c.log_of.ensures.some

pub returns-clause-none : goal.returns-clause-none
returns-clause-none c =
    IfOk-weaker c.log_of.result _ _
    (λ found none. log_not_found c.args.text.now _ found (sym c.in_ok-words.ensures ∙ ap (map (λ word. word.now)) (sym c.as_slice.ensures.value)) none)
    c.log_of.ensures.none
