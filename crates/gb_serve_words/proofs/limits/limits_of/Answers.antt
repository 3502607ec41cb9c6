use Rattle.gb_types.specs.Common.{Bor, [], map, subst, sym}
use Rattle.clap.specs.Words.{Text}
use Rattle.gb_serve_words.specs.Limits.{IsLimitsWithin}
use Rattle.gb_serve_words.proofs.RowLemmas.{limits_within, no_limits, read_limits}
use Rattle.gb_serve_words.proofs.limits.limits_of.Goals as goal

pub returns-in-None-clause-none : goal.returns-in-None-clause-none
returns-in-None-clause-none c =
    no_limits (map (λ (t : Bor Text). t.now) c.args.texts.now) (λ uses written fit. c.in-None.ensures.none [] uses c.nothing_taken.ensures written fit)

pub returns-in-Some-clause-within : goal.returns-in-Some-clause-within
returns-in-Some-clause-within c =
    let texts = map (λ (t : Bor Text). t.now) c.args.texts.now in
    let got = c.in-Some.ensures.some [] c.nothing_taken.ensures in
    subst IsLimitsWithin (λ i. record { each = sym c.unwrap_or-each.ensures i; named = c.in-Some.taken.named })
    (limits_within texts _ (read_limits texts got.0 c.in-Some.taken got.1 got.2))
