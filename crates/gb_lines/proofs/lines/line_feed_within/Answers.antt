use Rattle.gb_lines.proofs.CutLemmas.{feed_found, feed_none}
use Rattle.gb_lines.proofs.lines.line_feed_within.Goals as goal

pub returns-in-Some-clause-found : goal.returns-in-Some-clause-found
returns-in-Some-clause-found c = feed_found c.args.bytes.now c.args.from c.args.to c.in-Some.place c.requires.within c.in-Some.ensures

pub returns-in-None-clause-none : goal.returns-in-None-clause-none
returns-in-None-clause-none c = feed_none c.args.bytes.now c.args.from c.args.to c.requires.within c.in-None.ensures
