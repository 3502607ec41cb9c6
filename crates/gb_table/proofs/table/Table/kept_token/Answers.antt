use Rattle.gb_types.specs.Common.{◌≡◌, ◌∙◌, sym, subst, not-false}
use Rattle.gb_cap.proofs.KeptLemmas.{kept_found}
use Rattle.gb_types.specs.declared.address.Addr.{Addr}
use Rattle.gb_rules.specs.Common.{name_of}
use Rattle.gb_rules.proofs.AddressLemmas.{addr_is}
use Rattle.gb_table.specs.Kept.{IsMemberToken}
use Rattle.gb_table.specs.TableValue.{TableValue}
use Rattle.gb_table.proofs.table.Table.kept_token.Goals as goal

pub returns : goal.returns
returns c =
    let me = c.self.inside.me in
    let tenants = c.self.inside.tenants in
    let kept = c.in_ok-kept.kept.now in
    let own = c.in_ok-kept.own.now in
    let is : IsMemberToken me tenants kept own = kept_found (IsMemberToken me tenants) _ kept c.self.inside.member_tokens.entries own (λ k h. addr_is kept k h) c.self.invariant.1 c.in_ok-kept.ensures.value in
    let same : kept ≡ name_of c.args.addr = addr_is kept c.name_of.result (not-false _ (sym c.if-ne.ensures)) ∙ c.name_of.ensures in
    subst (λ (v : TableValue). IsMemberToken v.me v.tenants c.args.addr own) c.self.view_is (subst (λ (a : Addr). IsMemberToken me tenants a own) same is)
