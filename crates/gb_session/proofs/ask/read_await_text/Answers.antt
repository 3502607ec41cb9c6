use Rattle.gb_types.specs.Common.{sym, ap, map, ◌∙◌, arith}
use Rattle.std.proofs.lemmas.Result.{IfOk-weaker}
use Rattle.gb_types.proofs.ReadLemmas.{words_and_rest}
use Rattle.gb_session.proofs.AskLemmas.{await_text}
use Rattle.gb_session.proofs.ask.read_await_text.Goals as goal

pub returns-then-is_await-clause-some : goal.returns-then-is_await-clause-some
returns-then-is_await-clause-some c =
    IfOk-weaker c.read_await.result _ _
    (λ answer reads.
    await_text c.args.body.now _ _ answer (omega arith)
    (sym c.in_ok-words.ensures ∙ ap (map (λ word. word.now)) (sym c.as_slice.ensures.value) ∙ words_and_rest c.as_slice.result.now _ 1 (omega arith))
    (c.is_await.ensures.0 c.if-is_await.true) reads)
    c.read_await.ensures.some
