use Rattle.gb_cap.proofs.TextLemmas.{texts_differ}
use Rattle.gb_cap.proofs.token.texts_tell_needs_apart.Goals as goal

pub returns : goal.returns
returns c = texts_differ
