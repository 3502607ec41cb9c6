use Rattle.gb_types.specs.Common.{◌∙◌, codes}
use Rattle.clap.specs.Words.{found_of}
use Rattle.clap.proofs.WalkLemmas.{first_value-rows}
use Rattle.gb_door.proofs.words.words_of.Goals as goal

pub returns-clause-read : goal.returns-clause-read
returns-clause-read c = record {
  plan = c.plan_of-plan.ensures.read;
  page = c.get_str.ensures ∙ first_value-rows (found_of c.args.matches.now) (codes "page");
  origins = c.in_ok-origins.ensures;
}
