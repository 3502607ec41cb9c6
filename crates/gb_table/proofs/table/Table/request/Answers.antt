use Rattle.gb_types.specs.Common.{◌≡◌, ◌∙◌, ap, refl, subst, sym, true}
use Rattle.gb_types.specs.declared.{request.Action.Action, request.Action.TheVariants.AddTenant}
use Rattle.gb_table.specs.Requests.{is_admitted, admitted_reply, place_for, IsReplyTo, table_did}
use Rattle.gb_table.proofs.RequestLemmas.{admitted, may_lack}
use Rattle.gb_table.proofs.table.Table.request.Goals as goal

pub command-requires : goal.command-requires
command-requires c = c.place_for-place.ensures ∙ ap (λ (w : Action). place_for w c.args.self.now) c.in-Group.is

pub returns-in-AddTenant-clause-reply : goal.returns-in-AddTenant-clause-reply
returns-in-AddTenant-clause-reply c =
    let right : is_admitted c.args.request.now c.args.self.now ≡ true = sym c.is_admitted.ensures ∙ c.if-not-is_admitted.false in
    admitted c.args.request.now c.args.self.now c.add_tenant.result right
    (subst (λ (w : Action). IsReplyTo w (admitted_reply w c.args.self.now) c.add_tenant.result) (sym c.in-AddTenant.is) (may_lack (AddTenant c.in-AddTenant.row) _ c.add_tenant.result refl c.add_tenant.ensures.reply))

pub returns-in-AddTenant-clause-state : goal.returns-in-AddTenant-clause-state
returns-in-AddTenant-clause-state c = c.add_tenant.ensures.state c.args.noticed.now ∙ ap (λ (w : Action). table_did c.args.noticed.now c.add_tenant.result w c.args.self.now) (sym c.in-AddTenant.is)

pub returns-in-Group-clause-reply : goal.returns-in-Group-clause-reply
returns-in-Group-clause-reply c =
    let right : is_admitted c.args.request.now c.args.self.now ≡ true = sym c.is_admitted.ensures ∙ c.if-not-is_admitted.false in
    admitted c.args.request.now c.args.self.now c.command.result right
    (subst (λ (w : Action). IsReplyTo w (admitted_reply w c.args.self.now) c.command.result) (sym c.in-Group.is) c.command.ensures.reply)

pub returns-in-Group-clause-state : goal.returns-in-Group-clause-state
returns-in-Group-clause-state c = c.command.ensures.state ∙ ap (λ (w : Action). table_did c.args.noticed.now c.command.result w c.args.self.now) (sym c.in-Group.is)
