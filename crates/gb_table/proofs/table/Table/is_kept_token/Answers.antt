use Rattle.gb_types.specs.Common.{◌∙◌, sym}
use Rattle.gb_table.proofs.TenantLemmas.{token_admits}
use Rattle.gb_table.proofs.table.Table.is_kept_token.Goals as goal

pub returns-in-Some : goal.returns-in-Some
returns-in-Some c =
    λ is. sym (c.is_kept.ensures ∙ token_admits c.args.self.now.me c.args.self.now.tenants c.args.addr c.in-Some.own.now c.args.token.now c.in-Some.ensures) ∙ is
