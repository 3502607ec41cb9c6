use Rattle.gb_types.specs.Common.{refl, ap, ◌∙◌}
use Rattle.gb_rules.specs.Common.{row_of}
use Rattle.gb_table.proofs.TenantLemmas.{rows-lookup}
use Rattle.gb_table.proofs.tenants.Tenants.find.Goals as goal

pub returns : goal.returns
returns c = c.get.ensures.value ∙ rows-lookup _ c.args.tenant c.self.inside.rows.entries (λ k. refl) c.self.invariant.0 ∙ ap (row_of c.args.tenant) c.self.view_is
