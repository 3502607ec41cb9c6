use Rattle.gb_trace.proofs.SeenLemmas.{seen_alone_too}
use Rattle.gb_trace.proofs.laws.isolated_groups_are_seen_alone.Goals as goal

pub returns : goal.returns
returns c = seen_alone_too
