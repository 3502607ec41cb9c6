use Rattle.gb_types.specs.Common.{refl, sym, ap, subst, ◌∙◌, ◌++◌, ◌∷◌, []}
use Rattle.std.specs.Io.KnownBytes.{Appends}
use Rattle.gb_spelling.specs.Common.{reply_spelling}
use Rattle.gb_client.specs.Answers.{lines_of, reply_status}
use Rattle.gb_client_run.specs.Following.{HasFollowed}
use Rattle.gb_client_run.proofs.FollowLemmas.{follows_more, ends_refused}
use Rattle.gb_client_run.proofs.following.follow.Goals as goal

pub turns-preserved : goal.turns-preserved
turns-preserved g c =
    follows_more _ _ _ _ _ _ _ c.in-Log.entries c.turns.invariant (rw c.in-Log.is at c.in_ok-reply.ensures)
    (λ plain. subst (Appends (g.W.Write.contents c.turns.writer) (g.W.Write.contents c.print.new.writer)) (c.deref.ensures.value ∙ (c.in_ok-lines-in-Log.ensures plain ∙ ap lines_of c.as_slice.ensures)) c.in_ok-print-in-Log.ensures.ok)

pub returns-in-Refused : goal.returns-in-Refused
returns-in-Refused g c =
    subst (HasFollowed c.args.asked.now.is_text (g.R.Read.remaining c.args.reader.now) (g.R.Read.remaining c.next_reply.new.reader) (g.W.Write.contents c.args.writer.now) (g.W.Write.contents c.print-in-Refused.new.writer)) (sym (c.status_of.ensures ∙ ap reply_status c.in-Refused.is))
    (ends_refused _ _ _ _ _ _ _ c.in-Refused.field-0 c.turns.invariant (rw c.in-Refused.is at c.in_ok-reply.ensures)
    (subst (Appends (g.W.Write.contents c.turns.writer) (g.W.Write.contents c.print-in-Refused.new.writer)) (c.deref-in-Refused.ensures.value ∙ (c.in_ok-line-in-Refused.ensures refl ∙ ap (λ reply. reply_spelling reply ++ 10 ∷ []) c.in-Refused.is)) c.in_ok-print-in-Refused.ensures.ok))
