use Rattle.gb_spelling.specs.CommandWords.{SpellsFetch}
use Rattle.gb_types.specs.declared.request.GroupCommand.TheVariants.{Fetch}
use Rattle.gb_types.proofs.ReadLemmas.{made_reads}
use Rattle.gb_spelling.proofs.command_words.read_fetch_command.Goals as goal

pub returns : goal.returns
returns c = made_reads (λ n. Fetch n.0 n.1) (λ n. SpellsFetch n _) _ c.in_ok-from.ensures
