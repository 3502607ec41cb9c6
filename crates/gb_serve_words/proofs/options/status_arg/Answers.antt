use Rattle.gb_types.specs.Common.{ap}
use Rattle.clap.specs.Words.{Rule}
use Rattle.gb_serve_words.proofs.options.status_arg.Goals as goal

pub returns : goal.returns
returns c = record {
  rule = rw (c.help.ensures, c.value_name.ensures) (ap (λ (r : Rule). record r { value_names = 1 }) c.text_arg.ensures.rule);
  local = rw (c.help.ensures, c.value_name.ensures) c.text_arg.ensures.local;
}
