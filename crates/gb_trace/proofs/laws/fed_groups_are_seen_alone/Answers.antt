use Rattle.gb_trace.proofs.SeenLemmas.{seen_alone_projected}
use Rattle.gb_trace.proofs.laws.fed_groups_are_seen_alone.Goals as goal

pub returns : goal.returns
returns c = seen_alone_projected c.groups_are_isolated.ensures c.isolated_groups_are_seen_alone.ensures
