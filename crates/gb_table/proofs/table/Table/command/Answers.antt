use Rattle.gb_types.specs.Common.{◌∙◌, ap, inr, refl, subst, sym}
use Rattle.gb_types.specs.declared.{request.Action.TheVariants.Group, request.GroupCommand.GroupCommand, request.GroupCommand.TheVariants.Make, request.GroupCommand.TheVariants.Fetch}
use Rattle.gb_table.specs.Requests.{admitted_reply, place_for, IsReplyTo, table_did}
use Rattle.gb_table.specs.TableValue.{TableValue}
use Rattle.gb_table.proofs.RequestLemmas.{may_lack, fetch_leaves}
use Rattle.gb_table.proofs.table.Table.command.Goals as goal

pub returns-in-Make-clause-reply : goal.returns-in-Make-clause-reply
returns-in-Make-clause-reply c =
    subst (λ (q : GroupCommand). IsReplyTo (Group c.args.addr q) (admitted_reply (Group c.args.addr q) c.args.self.now) c.make.result) (sym c.in-Make.is)
    (may_lack (Group c.args.addr (Make c.in-Make.spec)) (admitted_reply (Group c.args.addr (Make c.in-Make.spec)) c.args.self.now) c.make.result refl c.make.ensures.reply)

pub returns-in-Make-clause-state : goal.returns-in-Make-clause-state
returns-in-Make-clause-state c = c.make.ensures.state ∙ ap (λ (q : GroupCommand). table_did c.args.noticed.now c.make.result (Group c.args.addr q) c.args.self.now) (sym c.in-Make.is)

pub returns-in-Open-clause-reply : goal.returns-in-Open-clause-reply
returns-in-Open-clause-reply c =
    subst (λ (q : GroupCommand). IsReplyTo (Group c.args.addr q) (admitted_reply (Group c.args.addr q) c.args.self.now) c.open_group.result) (sym c.in-Open.is)
    (inr c.open_group.ensures.reply)

pub returns-in-Open-clause-state : goal.returns-in-Open-clause-state
returns-in-Open-clause-state c = c.open_group.ensures.state c.args.noticed.now ∙ ap (λ (q : GroupCommand). table_did c.args.noticed.now c.open_group.result (Group c.args.addr q) c.args.self.now) (sym c.in-Open.is)

pub returns-in-Shut-clause-reply : goal.returns-in-Shut-clause-reply
returns-in-Shut-clause-reply c =
    subst (λ (q : GroupCommand). IsReplyTo (Group c.args.addr q) (admitted_reply (Group c.args.addr q) c.args.self.now) c.shut_group.result) (sym c.in-Shut.is)
    (inr c.shut_group.ensures.reply)

pub returns-in-Shut-clause-state : goal.returns-in-Shut-clause-state
returns-in-Shut-clause-state c = c.shut_group.ensures.state c.args.noticed.now ∙ ap (λ (q : GroupCommand). table_did c.args.noticed.now c.shut_group.result (Group c.args.addr q) c.args.self.now) (sym c.in-Shut.is)

pub returns-in-Drop-clause-reply : goal.returns-in-Drop-clause-reply
returns-in-Drop-clause-reply c =
    subst (λ (q : GroupCommand). IsReplyTo (Group c.args.addr q) (admitted_reply (Group c.args.addr q) c.args.self.now) c.drop_group.result) (sym c.in-Drop.is)
    (inr c.drop_group.ensures.reply)

pub returns-in-Drop-clause-state : goal.returns-in-Drop-clause-state
returns-in-Drop-clause-state c = c.drop_group.ensures.state c.args.noticed.now ∙ ap (λ (q : GroupCommand). table_did c.args.noticed.now c.drop_group.result (Group c.args.addr q) c.args.self.now) (sym c.in-Drop.is)

pub say-requires : goal.say-requires
say-requires c = c.requires ∙ ap (λ (q : GroupCommand). place_for (Group c.args.addr q) c.args.self.now) c.in-Say.is

pub returns-in-Say-clause-reply : goal.returns-in-Say-clause-reply
returns-in-Say-clause-reply c =
    subst (λ (q : GroupCommand). IsReplyTo (Group c.args.addr q) (admitted_reply (Group c.args.addr q) c.args.self.now) c.say.result) (sym c.in-Say.is)
    (inr c.say.ensures.reply)

pub returns-in-Say-clause-state : goal.returns-in-Say-clause-state
returns-in-Say-clause-state c = c.say.ensures.state c.args.noticed.now ∙ ap (λ (q : GroupCommand). table_did c.args.noticed.now c.say.result (Group c.args.addr q) c.args.self.now) (sym c.in-Say.is)

pub fetch-requires : goal.fetch-requires
fetch-requires c =
    c.requires ∙ ap (λ (q : GroupCommand). place_for (Group c.args.addr q) c.args.self.now) c.in-Fetch.is
    ∙ ap (λ (v : TableValue). place_for (Group c.args.addr (Fetch c.in-Fetch.from c.in-Fetch.most)) v) (sym c.self.view_is)

pub returns-in-Fetch-clause-reply : goal.returns-in-Fetch-clause-reply
returns-in-Fetch-clause-reply c =
    let fetch : GroupCommand = Fetch c.in-Fetch.from c.in-Fetch.most in
    subst (λ (q : GroupCommand). IsReplyTo (Group c.args.addr q) (admitted_reply (Group c.args.addr q) c.args.self.now) c.fetch.result) (sym c.in-Fetch.is)
    (subst (λ (v : TableValue). IsReplyTo (Group c.args.addr fetch) (admitted_reply (Group c.args.addr fetch) v) c.fetch.result) c.self.view_is
    (may_lack (Group c.args.addr fetch) _ c.fetch.result refl c.fetch.ensures))

pub returns-in-Fetch-clause-state : goal.returns-in-Fetch-clause-state
returns-in-Fetch-clause-state c =
    fetch_leaves c.args.noticed.now c.fetch.result c.args.addr c.in-Fetch.from c.in-Fetch.most c.args.self.now
    ∙ ap (λ (q : GroupCommand). table_did c.args.noticed.now c.fetch.result (Group c.args.addr q) c.args.self.now) (sym c.in-Fetch.is)
