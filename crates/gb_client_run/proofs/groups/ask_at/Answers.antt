use Rattle.gb_types.specs.Common.{◌≡◌, [], inl, inr, refl, sym, ap, ◌∙◌, arith}
use Rattle.gb_spelling.specs.Common.{reply_spelling}
use Rattle.gb_client_run.specs.Groups.{outcome_status}
use Rattle.gb_client_run.proofs.AskedLemmas.{done_then}
use Rattle.gb_client_run.proofs.groups.ask_at.Goals as goal

pub returns-in-Done : goal.returns-in-Done
returns-in-Done g c = λ zero.
    let replied = c.in_ok-reply.ensures in
    done_then g.N.Nodes.asks _ _ _ _ _ _ _ _ replied.exchange [] replied.told (replied.asked_so, inl (replied.reply_is ∙ ap reply_spelling c.in-Done.is)) refl

pub returns-in-Refused : goal.returns-in-Refused
returns-in-Refused g c = λ zero.
    let replied = c.in_ok-reply.ensures in
    elim c.settle.ensures.which [
      | inl before ↦
          let told = c.settle.ensures.told before in
          done_then g.N.Nodes.asks _ _ _ _ _ _ _ _ replied.exchange told.0 replied.told (replied.asked_so, inr (c.in-Refused.why, replied.reply_is ∙ ap reply_spelling c.in-Refused.is)) told.1
      | inr refused ↦ let bad : 1 ≡ 0 = sym (ap outcome_status refused) ∙ zero in absurd (omega (arith, bad))
    ]
