use Rattle.gb_detect.proofs.StretchLemmas.{noticed-stretch}
use Rattle.gb_detect.proofs.laws.noticed_by_stretch.Goals as goal

pub returns : goal.returns
returns c = noticed-stretch
