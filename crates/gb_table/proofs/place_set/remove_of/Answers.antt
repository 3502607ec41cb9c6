use Rattle.gb_types.specs.Common.{◌<◌, ◌*◌, ◌/◌, ◌%◌, ◌^◌, ◌∙◌, min, get_or, ap, sym, refl, arith, w64, bit_not}
use Rattle.std.proofs.{lemmas.Nat.and_le_l, lemmas.Nat.Bits.bit_at_clear_same, lemmas.Nat.Bits.bit_at_clear_other}
use Rattle.gb_table.proofs.PlaceSetLemmas.{has-set-same, has-set-other, summary-set}
use Rattle.gb_table.proofs.place_set.remove_of.Goals as goal

pub returns-then-word-eq0-clause-here : goal.returns-then-word-eq0-clause-here
returns-then-word-eq0-clause-here c =
    let ws = c.args.words.now in
    let l : c.args.place % 64 < 64 = omega arith in
    has-set-same ws c.args.place _ 0 (omega (arith, c.requires.place)) (bit_at_clear_same w64 (get_or ws (c.args.place / 64) 0) (c.args.place % 64) l)

pub returns-else-word-eq0-clause-here : goal.returns-else-word-eq0-clause-here
returns-else-word-eq0-clause-here c =
    let ws = c.args.words.now in
    let l : c.args.place % 64 < 64 = omega arith in
    has-set-same ws c.args.place _ 0 (omega (arith, c.requires.place)) (bit_at_clear_same w64 (get_or ws (c.args.place / 64) 0) (c.args.place % 64) l)

pub returns-then-word-eq0-clause-others : goal.returns-then-word-eq0-clause-others
returns-then-word-eq0-clause-others c = λ p ne.
    let ws = c.args.words.now in
    let l : c.args.place % 64 < 64 = omega arith in
    has-set-other ws c.args.place _ p (omega (arith, c.requires.place)) ne (λ i h d. bit_at_clear_other w64 (get_or ws (c.args.place / 64) 0) (c.args.place % 64) l i h d)

pub returns-else-word-eq0-clause-others : goal.returns-else-word-eq0-clause-others
returns-else-word-eq0-clause-others c = λ p ne.
    let ws = c.args.words.now in
    let l : c.args.place % 64 < 64 = omega arith in
    has-set-other ws c.args.place _ p (omega (arith, c.requires.place)) ne (λ i h d. bit_at_clear_other w64 (get_or ws (c.args.place / 64) 0) (c.args.place % 64) l i h d)

pub returns-then-word-eq0-clause-summary : goal.returns-then-word-eq0-clause-summary
returns-then-word-eq0-clause-summary c =
    let at = c.args.place / 64 in
    let f : at < 64 = omega (arith, c.requires.place, c.requires.few) in
    summary-set c.args.words.now c.args.summary.now _ at _ (omega (arith, c.requires.place)) c.requires.summary (bit_at_clear_same w64 c.args.summary.now at f ∙ ap (min 1) (sym c.if-word-eq0.true)) (λ i h d. bit_at_clear_other w64 c.args.summary.now at f i h d)

pub returns-else-word-eq0-clause-summary : goal.returns-else-word-eq0-clause-summary
returns-else-word-eq0-clause-summary c =
    let at = c.args.place / 64 in
    let f : at < 64 = omega (arith, c.requires.place, c.requires.few) in
    let le = and_le_l (get_or c.args.words.now at 0) (bit_not w64 (1 * 2 ^ (c.args.place % 64) % 2 ^ 64)) in
    summary-set c.args.words.now c.args.summary.now _ at _ (omega (arith, c.requires.place)) c.requires.summary (c.requires.summary at f ∙ omega (arith, le, c.if-word-eq0.false)) (λ i h d. refl)
