use Rattle.gb_types.specs.Common.{List, ◌∙◌, ap, sym}
use Rattle.gb_rules.specs.Common.{log_of, Shown, fetch_answer}
use Rattle.gb_rules.specs.declared.call.GroupCall.{GroupCall}
use Rattle.gb_alone.specs.Alone.{shown_in}
use Rattle.gb_alone.specs.MemberLists.{MemberValue, member_of}
use Rattle.gb_alone.proofs.member.Member.fetch_reply.Goals as goal

pub returns : goal.returns
returns c = λ bounds addr.
    let v = c.args.self.now in
    let spec = c.in-Ok.spec.now in
    let me = c.args.me.number in
    let s : Shown = shown_in me v.phase v.told (member_of v).put (member_of v).done spec in
    let told = c.deref.ensures.value ∙ ap (λ (v : MemberValue). v.told) c.self.view_is in
    let log = c.as_slice.ensures ∙ (c.in_ok-log.ensures ∙ ap (λ (calls : List GroupCall). log_of spec me calls) told) in
    rw (c.in-Ok.ensures (λ s. fetch_answer s c.args.from c.args.max) me) (c.log_reply.ensures s (sym log))
