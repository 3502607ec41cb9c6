use Rattle.gb_alone.proofs.IntegrityLemmas.{is_integral}
use Rattle.gb_alone.proofs.laws.integrity.Goals as goal

pub returns : goal.returns
returns c = is_integral
