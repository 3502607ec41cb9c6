use Rattle.gb_types.specs.Common.{List, sym, subst, arith}
use Rattle.gb_types.specs.declared.spec.TenantRow.{TenantRow}
use Rattle.gb_table.specs.SlotsValue.{AreNamed}
use Rattle.gb_table.specs.Kept.{AreMemberTokens}
use Rattle.gb_table.specs.OwnNode.{AreOwn}
use Rattle.gb_table.specs.Within.{names_of, IsWithin}
use Rattle.gb_table.proofs.TenantLemmas.{tenant_done, within_added, tokens_more}
use Rattle.gb_table.proofs.table.Table.add_tenant.Goals as goal
use Rattle.gb_table.proofs.table.Table.add_tenant.Goals.{in-Ok, in-Err}

pub invariant_of-self : goal.invariant_of-self
invariant_of-self c =
    let names = names_of c.self.inside.groups.rooms in
    let row = c.args.row.now in
    let d = tenant_done c.from-places.result c.reserved.result c.is_some-there.result row c.in-Done.ensures in
    let p = c.from-places.ensures in
    let r = c.reserved.ensures in
    let room = d.1.1 in
    let tokens = c.self.inside.member_tokens.entries in
    let me = c.self.inside.me in
    let version = c.self.inside.version in
    let rows = c.self.inside.groups.rows in
    elim c.match-add.branch [
      | in-Ok w ↦ subst (λ (ts : List TenantRow). IsWithin c.self.inside.places ts names × AreMemberTokens me ts tokens × AreOwn me version rows × AreNamed version rows) (sym w.in-Ok.ensures.ok)
          (within_added c.self.inside.places c.self.inside.tenants names row c.self.invariant.0 d.0 (omega arith), tokens_more me c.self.inside.tenants row tokens c.self.invariant.1, c.self.invariant.2, c.self.invariant.3)
      | in-Err w ↦ subst (λ (ts : List TenantRow). IsWithin c.self.inside.places ts names × AreMemberTokens me ts tokens × AreOwn me version rows × AreNamed version rows) (sym w.in-Err.ensures.err) c.self.invariant
    ]
