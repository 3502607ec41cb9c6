use Rattle.gb_types.specs.Common.{◌≡◌, refl, sym, ap, ◌∙◌, option_copied}
use Rattle.gb_cap.proofs.KeptLemmas.{kept_found}
use Rattle.gb_schedule.specs.Keys.{member_token, IsMemberToken}
use Rattle.gb_schedule.proofs.KeyLemmas.{member_of, same_member, same_node}
use Rattle.gb_schedule.proofs.keys.Keys.find.Goals as goal
use Rattle.gb_schedule.proofs.keys.Keys.find.Goals.{in-Some, in-None}

pub put-requires : goal.put-requires
put-requires c =
    let member = member_of c.args.address c.args.node.number in
    let is : c.match-get.token ≡ member_token c.args.address c.args.node =
    elim c.match-get.branch [
      | in-Some w ↦ w.token-is ∙ kept_found IsMemberToken _ member c.self.inside.members.entries w.in-Some.token.now (λ k h. same_member member k h) c.self.invariant.2 (sym c.get.ensures.value ∙ ap option_copied w.in-Some.is) c.args.node refl
      | in-None w ↦ w.token-is ∙ w.make-token.ensures
    ] in
    λ node e. is ∙ same_node c.args.address c.args.node node (sym e)

pub returns : goal.returns
returns c =
    let member = member_of c.args.address c.args.node.number in
    let is : c.match-get.token ≡ member_token c.args.address c.args.node =
    elim c.match-get.branch [
      | in-Some w ↦ w.token-is ∙ kept_found IsMemberToken _ member c.self.inside.members.entries w.in-Some.token.now (λ k h. same_member member k h) c.self.invariant.2 (sym c.get.ensures.value ∙ ap option_copied w.in-Some.is) c.args.node refl
      | in-None w ↦ w.token-is ∙ w.make-token.ensures
    ] in
    is
