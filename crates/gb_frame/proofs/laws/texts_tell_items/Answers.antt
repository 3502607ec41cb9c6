use Rattle.gb_frame.proofs.BatchLemmas.{texts_tell_items}
use Rattle.gb_frame.proofs.laws.texts_tell_items.Goals as goal

pub returns : goal.returns
returns c = texts_tell_items
