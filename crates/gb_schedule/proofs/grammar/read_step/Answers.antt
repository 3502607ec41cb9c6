use Rattle.gb_schedule.proofs.PlaceLemmas.{step_in_place, none_spelt}
use Rattle.gb_schedule.proofs.grammar.read_step.Goals as goal

pub returns : goal.returns
returns c = record {
  spelt = c.find_step.ensures;
  none = none_spelt c.find_step.result c.find_step.ensures;
  in_place = step_in_place c.args.nodes c.args.line.now c.find_step.result c.find_step.ensures;
}
