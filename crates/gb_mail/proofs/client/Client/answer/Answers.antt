use Rattle.gb_types.specs.Common.{◌++◌, ap, sym, ◌∙◌, subst}
use Rattle.gb_session.proofs.WholeLemmas.{fails_in_turn, in_turn_asked}
use Rattle.gb_mail.specs.Turned.{HasSent}
use Rattle.gb_mail.proofs.AskedLemmas.{took_asked}
use Rattle.gb_mail.proofs.FailedLemmas.{stopped_early, stopped_behind}
use Rattle.gb_mail.proofs.client.Client.answer.Goals as goal

pub returns-in-Err-clause-none : goal.returns-in-Err-clause-none
returns-in-Err-clause-none g c = stopped_early _ _ _ _ _ _ _ _ _ _ (g.W.Write.contents c.args.writer.now) c.in-Err.ensures.fails

pub returns-in-Err-clause-asked : goal.returns-in-Err-clause-asked
returns-in-Err-clause-asked g c = in_turn_asked (fails_in_turn _ _ _ _ _ _ _ _ _ _ c.in-Err.ensures.fails)

pub returns-in_default-clause-none : goal.returns-in_default-clause-none
returns-in_default-clause-none g c =
    stopped_behind _ _ _ _ _ _ _ _ _ _ _ _ _ _ c.in-Ok.ensures.ok c.clear.ensures.items
    (subst (λ b. HasSent (g.W.Write.contents c.args.writer.now) (g.W.Write.contents c.send.new.writer) b) c.deref.ensures.value c.in_default.ensures.none)

pub returns-in_default-clause-asked : goal.returns-in_default-clause-asked
returns-in_default-clause-asked g c = took_asked c.in-Ok.ensures.ok

pub returns-in_default-from_slice-clause-none : goal.returns-in_default-from_slice-clause-none
returns-in_default-from_slice-clause-none g c =
    let w = c.in-Some.ensures.some in
    stopped_behind _ _ _ _ _ _ _ _ _ _ _ _ _ _ c.in-Ok.ensures.ok c.clear.ensures.items
    (w.0, c.in-Some.rest.now, w.1, sym c.deref.ensures.value ∙ w.2)

pub returns-in_default-from_slice-clause-asked : goal.returns-in_default-from_slice-clause-asked
returns-in_default-from_slice-clause-asked g c = took_asked c.in-Ok.ensures.ok

pub returns-clause-asked : goal.returns-clause-asked
returns-clause-asked g c = took_asked c.in-Ok.ensures.ok

pub returns-clause-some : goal.returns-clause-some
returns-clause-some g c =
    let w = c.in-Some.ensures.some in (
      c.take.new.out.items,
      rw c.clear.ensures.items at c.in-Ok.ensures.whole,
      w.0,
      w.1,
      sym c.deref.ensures.value ∙ w.2 ∙ ap (λ r. w.0 ++ r) (sym c.in-Ok-from_slice.ensures.items),
      c.is_end-self.ensures,
    )
