use Rattle.gb_types.specs.Common.{ap, sym, subst, ◌∙◌, option_map}
use Rattle.gb_cap.specs.Token.{token_of}
use Rattle.gb_cap.specs.declared.{token.Need.Need, token.Need.TheVariants.Member}
use Rattle.gb_types.specs.declared.address.Addr.{Addr}
use Rattle.gb_rules.specs.Common.{row_of}
use Rattle.gb_cap.proofs.KeptLemmas.{kept_after}
use Rattle.gb_rules.proofs.AddressLemmas.{addr_is}
use Rattle.gb_table.specs.Kept.{IsMemberToken}
use Rattle.gb_table.specs.TableValue.{TableValue}
use Rattle.gb_table.proofs.TenantLemmas.{token_made}
use Rattle.gb_table.proofs.table.Table.keep_member_token.Goals as goal

pub invariant_of-self : goal.invariant_of-self
invariant_of-self c =
    let is = token_made c.self.inside.me c.self.inside.tenants c.args.addr c.in-Some.token
    (c.in-Some.ensures ∙ ap (λ (need : Need). option_map (λ row. token_of row.key need) (row_of c.args.addr.tenant c.self.inside.tenants)) (c.as_member.ensures ∙ ap (λ (v : TableValue). Member c.args.addr.tenant c.args.addr.group v.me) (sym c.self.view_is))) in (
      c.self.invariant.0,
      kept_after (IsMemberToken c.self.inside.me c.self.inside.tenants) c.insert.result _ c.name_of.result c.self.inside.member_tokens.entries c.insert.new.self.entries c.in-Some.token c.insert.ensures.entries c.insert.ensures.err
          (λ k h. addr_is c.name_of.result k h) c.self.invariant.1 (subst (λ (a : Addr). IsMemberToken c.self.inside.me c.self.inside.tenants a c.in-Some.token) (sym c.name_of.ensures) is),
      c.self.invariant.2,
      c.self.invariant.3,
    )
