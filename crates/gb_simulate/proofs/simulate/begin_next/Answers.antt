use Rattle.gb_types.specs.Common.{Ok, Some, None, ◌++◌, codes, inr, refl, ap, sym, ◌∙◌, false≢true, none-some}
use Rattle.gb_lines.specs.{Buffered.left, Lines.ended}
use Rattle.gb_schedule.specs.declared.command.Command.TheVariants.{Cluster}
use Rattle.gb_simulate.specs.Schedule.{IsBadLine, IsNoLine}
use Rattle.gb_simulate.specs.declared.outcome.BadLine.TheVariants.{NoCluster}
use Rattle.gb_simulate.proofs.ProgressLemmas.{next_is}
use Rattle.gb_simulate.proofs.simulate.begin_next.Goals as goal

pub returns-in-None-clause-stops : goal.returns-in-None-clause-stops
returns-in-None-clause-stops g c =
    let ok = ap Ok c.in_default.is in
    let number = c.in_ok-end.ensures.number in
    let bad : IsNoLine None c.line-line.result.now = (
      λ silent. false≢true (sym c.if-is_silent.false ∙ c.is_silent.ensures.1 silent),
      λ command spelt. none-some command ((c.in-None.ensures.spelt command).1 spelt),
    ) in
    let next = next_is (IsBadLine NoCluster c.next_line.new.run.number None) c.next_line.new.run.lines.line
    (left c.args.run.now.lines (g.R.Read.remaining c.args.reader.now)) (left c.next_line.new.run.lines (g.R.Read.remaining c.next_line.new.reader)) (c.in_ok-end.ensures.given ok)
    (c.in_ok-end.ensures.short ok, rw number (c.in_ok-end.ensures.few ok), refl, rw c.line-line.ensures at bad) in
    rw (c.in_ok-end.ensures.gathered ok, number) at (c.end_badly.ensures.stops None _ (g.R.Read.remaining c.next_line.new.reader) next)

pub returns-in_ok-begin-in-Some-read_start-clause-goes_on : goal.returns-in_ok-begin-in-Some-read_start-clause-goes_on
returns-in_ok-begin-in-Some-read_start-clause-goes_on g c =
    let ok = ap Ok c.in_default.is in
    let start = Cluster c.in-Some-read_start.start in
    λ _. record {
      line = c.line-line.result.now;
      answer = ended (codes "ok");
      given = rw c.line-line.ensures (c.in_ok-end.ensures.given ok);
      short = rw c.line-line.ensures (c.in_ok-end.ensures.short ok);
      few = c.in_ok-end.ensures.few ok;
      goes = inr (start, (c.in-Some-read_start.ensures.spelt start).0 refl, (ap Some c.in_ok-begin-in-Some-read_start.ensures.started, refl));
      answered = c.in_ok-begin-in-Some-read_start.ensures.ok ∙ ap (λ q. q ++ ended (codes "ok")) (c.in_ok-end.ensures.gathered ok);
    }
