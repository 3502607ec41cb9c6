use Rattle.gb_redact.proofs.PastLemmas.{tape_so}
use Rattle.gb_redact.proofs.laws.redacted_are_a_tape.Goals as goal

pub returns : goal.returns
returns c = tape_so c.pasts_say.ensures
