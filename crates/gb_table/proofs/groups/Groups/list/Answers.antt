use Rattle.gb_types.specs.Common.{◌≡◌, suc, ◌++◌, ◌∷◌, [], ap, ◌∙◌, sym, map, take, drop, List, arith, inl, inr, ◌-◌, ◌+◌, ◌<◌}
use Rattle.std.proofs.Math.Nat.{eq-zero-or-pos}
use Rattle.gb_table.specs.GroupRows.{listed, used}
use Rattle.gb_table.specs.SlotsValue.{Row, row_at}
use Rattle.gb_table.specs.declared.group_row.GroupRow.{GroupRow}
use Rattle.gb_table.proofs.ListingLemmas.{next_listed, used_here}
use Rattle.gb_table.proofs.groups.Groups.list.Goals as goal

pub loop-place-preserved : goal.loop-place-preserved
loop-place-preserved c =
    let i = c.loop-place.invariant in
    let rows = c.args.self.now.rows in
    let p = c.loop-place.place in
    let rest = used (drop (p + 1) rows) in
    let has = c.if-left-eq0.false in
    let left = c.loop-place.left in
    let some : 0 < left = elim (eq-zero-or-pos left) [ inl e ↦ absurd (has e) | inr l ↦ l ] in
    let next : suc p ≡ p + 1 = omega arith in
    let here = used_here rows p (omega (arith, c.loop-place-test.true, c.len-place-end.ensures)) (sym c.is_used.ensures ∙ c.if-not-is_used.false) ∙ ap (λ n. row_at rows p ∷ used (drop n rows)) next in
    let size = c.push_reserved.ensures.len in
    let room = c.push_reserved.ensures.capacity in
    let a = i.0 in
    let b = i.1 in
    let d = i.2 in (
      omega arith,
      omega arith,
      omega arith,
      ap (λ (xs : List GroupRow). xs ++ map listed (take (left - 1) (drop c.loop-place.before rest))) (c.push_reserved.ensures.items ∙ ap (λ (r : GroupRow). c.loop-place.rows.items ++ r ∷ []) c.listed.ensures)
          ∙ (next_listed c.loop-place.rows.items (row_at rows p) rest left c.loop-place.before some c.if-before-gt0.false
          ∙ (ap (λ (xs : List Row). c.loop-place.rows.items ++ map listed (take left (drop c.loop-place.before xs))) (sym here)
          ∙ i.3)),
    )
