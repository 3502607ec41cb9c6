use Rattle.gb_types.specs.Common.{◌≤◌, ◌<◌, ◌+◌, ◌/◌, ◌%◌, get_or, refl, arith}
use Rattle.std.proofs.lemmas.Nat.Bits.{ones_shl}
use Rattle.gb_table.proofs.PlaceSetLemmas.{first_found, found_behind, has-past, none_before, none_behind}
use Rattle.gb_table.proofs.place_set.next_of.Goals as goal

pub returns-then-words-first-clause-next : goal.returns-then-words-first-clause-next
returns-then-words-first-clause-next c = λ p h. has-past c.args.words.now p (omega arith)

pub returns-then-begun-ne0-clause-next : goal.returns-then-begun-ne0-clause-next
returns-then-begun-ne0-clause-next c =
    let l : c.args.from % 64 ≤ 64 = omega arith in
    first_found c.args.words.now c.args.from (get_or c.args.words.now (c.args.from / 64) 0) _ refl (ones_shl 64 (c.args.from % 64) l) (omega (arith, c.if-begun-ne0.true)) (omega (arith, c.type_inv.words (c.args.from / 64)))

pub returns-then-later-eq0-clause-next : goal.returns-then-later-eq0-clause-next
returns-then-later-eq0-clause-next c = λ p h.
    let first = c.args.from / 64 in
    let k : c.args.from % 64 ≤ 64 = omega arith in
    let f : first < 64 = omega (arith, c.if-words-first.false, c.requires.few) in
    none_before c.args.words.now c.args.from (p / 64 + 1) (get_or c.args.words.now first 0) refl (rw (ones_shl 64 (c.args.from % 64) k) at c.if-begun-ne0.false)
    (λ a b _. none_behind c.args.words.now c.args.summary first _ a c.requires.few c.requires.summary f (ones_shl 64 first (omega (arith, f))) c.if-later-eq0.true b) p h (omega arith)

pub bounds-words-index : goal.bounds-words-index
bounds-words-index c =
    let k : c.args.from % 64 ≤ 64 = omega arith in
    let f : c.args.from / 64 < 64 = omega (arith, c.if-words-first.false, c.requires.few) in
    (found_behind c.args.words.now c.args.summary c.args.from _ _ c.requires.summary (λ i. omega (arith, c.type_inv.words i)) (omega (arith, c.ranges.summary)) f (ones_shl 64 (c.args.from % 64) k) c.if-begun-ne0.false (ones_shl 64 (c.args.from / 64) (omega (arith, f))) (omega (arith, c.if-later-eq0.false))).within

pub returns-clause-next : goal.returns-clause-next
returns-clause-next c =
    let k : c.args.from % 64 ≤ 64 = omega arith in
    let f : c.args.from / 64 < 64 = omega (arith, c.if-words-first.false, c.requires.few) in
    (found_behind c.args.words.now c.args.summary c.args.from _ _ c.requires.summary (λ i. omega (arith, c.type_inv.words i)) (omega (arith, c.ranges.summary)) f (ones_shl 64 (c.args.from % 64) k) c.if-begun-ne0.false (ones_shl 64 (c.args.from / 64) (omega (arith, f))) (omega (arith, c.if-later-eq0.false))).next

pub returns-clause-within : goal.returns-clause-within
returns-clause-within c =
    let k : c.args.from % 64 ≤ 64 = omega arith in
    let f : c.args.from / 64 < 64 = omega (arith, c.if-words-first.false, c.requires.few) in
    (found_behind c.args.words.now c.args.summary c.args.from _ _ c.requires.summary (λ i. omega (arith, c.type_inv.words i)) (omega (arith, c.ranges.summary)) f (ones_shl 64 (c.args.from % 64) k) c.if-begun-ne0.false (ones_shl 64 (c.args.from / 64) (omega (arith, f))) (omega (arith, c.if-later-eq0.false))).bound
