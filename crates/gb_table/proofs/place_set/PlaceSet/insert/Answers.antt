use Rattle.gb_types.specs.Common.{◌≡◌, ◌<◌, ◌*◌, ◌/◌, ◌%◌, ◌^◌, ◌∙◌, ℕ, List, length, ap, sym, get_or, arith, w64, bit_or, get_or_default, length-set, bit_at}
use Rattle.std.proofs.lemmas.Nat.Bits.{bit_at_set_same, bit_at_set_other}
use Rattle.gb_table.specs.PlaceSet.{has}
use Rattle.gb_table.proofs.PlaceSetLemmas.{has-set-same, has-set-other, summary-set, word_with}
use Rattle.gb_table.proofs.place_set.PlaceSet.insert.Goals as goal

pub returns-clause-here : goal.returns-clause-here
returns-clause-here c =
    let l : c.args.place % 64 < 64 = omega arith in
    let size = ap (λ (v : List ℕ). length v) c.self.view_is in
    has-set-same c.self.inside.words.items c.args.place _ 1 (omega arith) (bit_at_set_same w64 c.index_mut.result.now (c.args.place % 64) l)

pub returns-clause-others : goal.returns-clause-others
returns-clause-others c = λ p ne.
    let ws = c.self.inside.words.items in
    let l : c.args.place % 64 < 64 = omega arith in
    let size = ap (λ (v : List ℕ). length v) c.self.view_is in
    let there : c.args.place / 64 < length ws = omega arith in
    let word : c.index_mut.result.now ≡ get_or ws (c.args.place / 64) 0 = c.index_mut.ensures.value ∙ sym (get_or_default ws (c.args.place / 64) 0 c.index_mut.result.now there) in
    has-set-other ws c.args.place _ p there ne (λ i h d. bit_at_set_other w64 c.index_mut.result.now (c.args.place % 64) l i d ∙ ap (λ n. bit_at n i) word) ∙ ap (λ (v : List ℕ). has v p) c.self.view_is

pub invariant_of-self : goal.invariant_of-self
invariant_of-self c =
    let ws = c.self.inside.words.items in
    let at = c.args.place / 64 in
    let l : c.args.place % 64 < 64 = omega arith in
    let size = ap (λ (v : List ℕ). length v) c.self.view_is in
    let there : at < length ws = omega (arith, c.requires, size) in
    let f : at < 64 = omega (arith, there, c.self.invariant.0) in (
      omega (arith, c.self.invariant.0, length-set ws at (bit_or c.index_mut.result.now (1 * 2 ^ (c.args.place % 64) % 2 ^ 64))),
      summary-set ws c.self.inside.summary _ at _ there c.self.invariant.1 (bit_at_set_same w64 c.self.inside.summary at f ∙ sym (word_with _ (c.args.place % 64) (bit_at_set_same w64 c.index_mut.result.now (c.args.place % 64) l))) (λ i h d. bit_at_set_other w64 c.self.inside.summary at f i d),
    )
