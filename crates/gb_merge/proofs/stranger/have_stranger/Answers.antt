use Rattle.gb_merge.proofs.CodeLemmas.{stranger_of, stranger_has}
use Rattle.gb_merge.proofs.stranger.have_stranger.Goals as goal

pub returns-clause-some : goal.returns-clause-some
returns-clause-some c = λ some. let has = c.any_stranger-found.ensures.some some in stranger_of c.args.reader.now c.in_ok-sent.sent c.args.tapes.now has.0 c.requires c.in_ok-sent.ensures has.1

pub returns-clause-none : goal.returns-clause-none
returns-clause-none c = λ none s. c.any_stranger-found.ensures.none none s.node.number (stranger_has c.args.reader.now c.in_ok-sent.sent c.args.tapes.now s c.in_ok-sent.ensures)
