use Rattle.gb_detect.proofs.ReplayLemmas.{noticed-replay}
use Rattle.gb_detect.proofs.laws.noticed_by_calls.Goals as goal

pub returns : goal.returns
returns c = noticed-replay
