use Rattle.std.proofs.lemmas.Fmt.{decimal_injective}
use Rattle.gb_spelling.proofs.laws.one_word_one_number.Goals as goal

pub returns : goal.returns
returns c = decimal_injective
