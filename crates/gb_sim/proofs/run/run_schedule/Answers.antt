use Rattle.gb_sim.proofs.RunLemmas.{is_answered}
use Rattle.gb_sim.proofs.run.run_schedule.Goals as goal

pub returns : goal.returns
returns g c = record {
  outcome = c.simulate-outcome.result;
  told = c.tell_want_of_memory-outcome_told.result;
  between = g.W.Write.contents c.simulate-outcome.new.writer;
  answered = is_answered c.simulate-outcome.result (g.R.Read.remaining c.args.reader.now) (g.R.Read.remaining c.simulate-outcome.new.reader) (g.W.Write.contents c.args.writer.now) (g.W.Write.contents c.simulate-outcome.new.writer)
      c.simulate-outcome.ensures.text c.simulate-outcome.ensures.fault;
  other = c.tell_want_of_memory-outcome_told.ensures.other;
  memory = c.tell_want_of_memory-outcome_told.ensures.told;
  cut = c.tell_want_of_memory-outcome_told.ensures.fault;
  whole = c.complain-told.ensures.ok;
  front = c.complain-told.ensures.write;
  silent = c.complain-told.ensures.memory;
  status_is = c.status_of-status.ensures;
}
