use Rattle.gb_spelling.specs.RequestWords.{SpellsSpec}
use Rattle.gb_types.specs.declared.request.GroupCommand.TheVariants.{Make}
use Rattle.gb_types.proofs.ReadLemmas.{made_reads}
use Rattle.gb_spelling.proofs.command_words.read_make.Goals as goal

pub returns : goal.returns
returns c = made_reads Make (λ spec. SpellsSpec spec _) _ c.in_ok-spec.ensures
