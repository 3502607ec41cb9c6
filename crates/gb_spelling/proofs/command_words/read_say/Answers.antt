use Rattle.gb_spelling.specs.RequestWords.{SpellsMessage}
use Rattle.gb_types.specs.declared.request.GroupCommand.TheVariants.{Say}
use Rattle.gb_types.proofs.ReadLemmas.{made_reads, none_made}
use Rattle.gb_spelling.proofs.command_words.read_say.Goals as goal

pub returns : goal.returns
returns c = made_reads Say (λ message. SpellsMessage message _) _ (rw c.in-Some.is at c.in_ok-message.ensures)

pub returns-in_default : goal.returns-in_default
returns-in_default c = none_made Say (λ message. SpellsMessage message _) (rw c.in_default.is at c.in_ok-message.ensures)
