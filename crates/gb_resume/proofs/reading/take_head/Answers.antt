use Rattle.gb_resume.proofs.reading.take_head.Goals as goal

pub returns-clause-head : goal.returns-clause-head
returns-clause-head c = (c.in-Ok.head, c.in-Ok.ensures.line, c.in_ok-compare.ensures)
