use Rattle.gb_types.specs.Common.{Ok, Some, ap, sym, ◌∙◌, none-some}
use Rattle.gb_lines.specs.Buffered.{left}
use Rattle.gb_simulate.specs.Schedule.{IsBadLine}
use Rattle.gb_simulate.specs.declared.outcome.BadLine.TheVariants.{NoCommand}
use Rattle.gb_simulate.proofs.ProgressLemmas.{next_is}
use Rattle.gb_simulate.proofs.simulate.answer_next.Goals as goal

pub returns-in-Ok-false-clause-stops : goal.returns-in-Ok-false-clause-stops
returns-in-Ok-false-clause-stops g c =
    let ok = ap Ok c.in_default.is in
    let bad = c.in-Ok-false.ensures.bad (ap Ok c.in-Ok-false.field-0-test) in
    let number = c.in_ok-end.ensures.number in
    let next = next_is (IsBadLine NoCommand c.next_line.new.run.number (Some c.args.cluster.now)) c.next_line.new.run.lines.line
    (left c.args.run.now.lines (g.R.Read.remaining c.args.reader.now)) (left c.next_line.new.run.lines (g.R.Read.remaining c.next_line.new.reader)) (c.in_ok-end.ensures.given ok)
    (c.in_ok-end.ensures.short ok, rw number (c.in_ok-end.ensures.few ok), λ is. none-some c.args.cluster.now (sym is), rw c.line-line.ensures at bad.0) in
    rw (bad.1 ∙ c.in_ok-end.ensures.gathered ok, number) at (c.end_badly.ensures.stops (Some c.args.cluster.now) _ (g.R.Read.remaining c.next_line.new.reader) next)
