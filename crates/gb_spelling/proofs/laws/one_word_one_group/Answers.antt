use Rattle.gb_spelling.proofs.MembersLemmas.{same_group}
use Rattle.gb_spelling.proofs.laws.one_word_one_group.Goals as goal

pub returns : goal.returns
returns c = same_group
