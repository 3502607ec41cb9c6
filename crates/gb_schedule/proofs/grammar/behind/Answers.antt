use Rattle.gb_schedule.proofs.HeadLemmas.{behind_is}
use Rattle.gb_schedule.proofs.grammar.behind.Goals as goal

pub returns-clause-some : goal.returns-clause-some
returns-clause-some c = behind_is c.args.line.now c.args.begin.now c.strip_prefix.result c.strip_prefix.ensures.cases
