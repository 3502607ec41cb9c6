use Rattle.gb_types.specs.Common.{Err, ap, inr, map, refl}
use Rattle.gb_peer_run.proofs.RefusedLemmas.{no_words, not_words, on_error, words_error}
use Rattle.gb_peer_run.proofs.ServedLemmas.{on_ok}
use Rattle.gb_peer_run.proofs.peer_main.serve.Goals as goal

pub returns-clause-served : goal.returns-clause-served
returns-clause-served g c = on_ok c.serve_words.result (λ s. record { read = c.in_ok-read.read; said = c.in_ok-read.ensures.given; file = s.0; served = s.1 }) c.serve_words.ensures.served

pub returns-in_err-read-clause-refused : goal.returns-in_err-read-clause-refused
returns-in_err-read-clause-refused g c =
    on_error _ _ c.from_residual.result (λ fault known two. (known two, refl, refl, λ _. refl))
    (words_error (map (λ word. word.now) c.args.words.now) c.from_residual.result c.in_err-read.field-0.0 c.from_residual.ensures.1 (λ why. c.in_err-read.ensures.refused (ap Err why)))

pub returns-clause-refused : goal.returns-clause-refused
returns-clause-refused g c =
    on_error _ _ c.serve_words.result
    (λ fault known two.
    let all = known two in
    (inr (c.in_ok-read.read, c.in_ok-read.ensures.given, all.0), all.1, all.2, λ words. absurd (not_words c.in_ok-read.read fault all.0 words)))
    c.serve_words.ensures.refused

pub returns-clause-taken : goal.returns-clause-taken
returns-clause-taken g c = λ taken is.
    no_words c.in_ok-read.read c.serve_words.result (on_error _ _ c.serve_words.result (λ fault known two. (known two).0) c.serve_words.ensures.refused) is
