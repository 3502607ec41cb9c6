use Rattle.gb_isolation.proofs.AmpleLemmas.{feeds_all}
use Rattle.gb_isolation.proofs.laws.ample_runs_feed_all.Goals as goal

pub returns : goal.returns
returns c = feeds_all
