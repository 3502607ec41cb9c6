use Rattle.gb_client_run.proofs.FollowLemmas.{Follows}
use Rattle.gb_client_run.proofs.following.follow.Given as goal

-- logs were read, and their entries printed
abbrev pub invariant-turns : goal.invariant-turns
invariant-turns g l = Follows l.asked.is_text (g.R.Read.remaining l.initial.reader) (g.R.Read.remaining l.reader) (g.W.Write.contents l.initial.writer) (g.W.Write.contents l.writer)
