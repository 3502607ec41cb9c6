use Rattle.gb_types.specs.Common.{sym, ap, map, ◌∙◌}
use Rattle.std.proofs.lemmas.Result.{IfOk-weaker}
use Rattle.gb_client.proofs.ReplyLemmas.{entry_found, entry_not_found}
use Rattle.gb_client.proofs.answer.read_entry.Goals as goal

pub returns-clause-some : goal.returns-clause-some
returns-clause-some c =
    IfOk-weaker c.entry_of.result _ _
    (λ found some. entry_found c.args.word.now _ found (sym c.in_ok-parts.ensures ∙ ap (map (λ part. part.now)) (sym c.as_slice.ensures.value)) some)
    c.entry_of.ensures.some

pub returns-clause-none : goal.returns-clause-none
returns-clause-none c =
    IfOk-weaker c.entry_of.result _ _
    (λ found none. entry_not_found c.args.word.now _ found (sym c.in_ok-parts.ensures ∙ ap (map (λ part. part.now)) (sym c.as_slice.ensures.value)) none)
    c.entry_of.ensures.none
