use Rattle.gb_lines.proofs.LeftLemmas.{left_cut, left_too_long}
use Rattle.gb_lines.proofs.lines.LineBuffer.next.Goals as goal

pub returns-in-Some-clause-given : goal.returns-in-Some-clause-given
returns-in-Some-clause-given g c is =
    left_cut _ _ c.loop-next.self c.cut.new.self c.loop-next.invariant.kept (c.in-Some.ensures.given (cc)) c.cut.ensures.ended

pub returns-in-Some-clause-too_long : goal.returns-in-Some-clause-too_long
returns-in-Some-clause-too_long g c is = left_too_long _ _ c.loop-next.self c.loop-next.invariant.kept (c.in-Some.ensures.too_long (cc))
