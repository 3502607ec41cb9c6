use Rattle.gb_types.specs.Common.{◌≡◌, ℕ, List, [], ◌∷◌, ◌++◌, ◌+◌, refl, ap, sym, subst, ◌∙◌, nat_eq}
use Rattle.indexmap.specs.IndexMap.{insert_entry}
use Rattle.gb_types.specs.declared.spec.TenantRow.{TenantRow}
use Rattle.gb_rules.specs.Common.{row_of, reserved}
use Rattle.gb_table.specs.Kept.{rows_of, AreKeyed}
use Rattle.gb_table.proofs.TenantLemmas.{insert-last, keyed-more, rows-more, reserved-more}
use Rattle.gb_table.proofs.tenants.Tenants.add.Goals as goal

pub invariant_of-self-2 : goal.invariant_of-self-2
invariant_of-self-2 c =
    let es = c.self.inside.rows.entries in
    let row = c.args.row.now in
    let inserted = rw c.unwrap.ensures at c.insert.ensures.entries in
    let entries : c.insert.new.self.entries ≡ es ++ (row.tenant, row) ∷ [] =
    inserted ∙ ap (λ (xs : List (ℕ × TenantRow)). insert_entry nat_eq xs row.tenant c.new.result) c.reserve.ensures.entries ∙ ap (λ (r : TenantRow). insert_entry nat_eq es row.tenant r) c.new.ensures ∙ insert-last nat_eq row.tenant row es (λ k. refl) c.self.invariant.0 (ap (row_of row.tenant) c.self.view_is ∙ c.requires.fresh) in (
      subst AreKeyed (sym entries) (keyed-more row es c.self.invariant.0),
      ap (λ n. n + row.groups) c.self.invariant.1 ∙ sym (ap (λ (xs : List (ℕ × TenantRow)). reserved (rows_of xs)) entries ∙ ap reserved (rows-more row es) ∙ reserved-more (rows_of es) row),
    )

pub returns-clause-ok : goal.returns-clause-ok
returns-clause-ok c =
    let es = c.self.inside.rows.entries in
    let row = c.args.row.now in
    let inserted = rw c.unwrap.ensures at c.insert.ensures.entries in
    let entries : c.insert.new.self.entries ≡ es ++ (row.tenant, row) ∷ [] =
    inserted ∙ ap (λ (xs : List (ℕ × TenantRow)). insert_entry nat_eq xs row.tenant c.new.result) c.reserve.ensures.entries ∙ ap (λ (r : TenantRow). insert_entry nat_eq es row.tenant r) c.new.ensures ∙ insert-last nat_eq row.tenant row es (λ k. refl) c.self.invariant.0 (ap (row_of row.tenant) c.self.view_is ∙ c.requires.fresh) in
    ap rows_of entries ∙ rows-more row es ∙ ap (λ (rs : List TenantRow). rs ++ row ∷ []) c.self.view_is
