use Rattle.gb_types.specs.Common.{rules, arith}
use Rattle.gb_client_run.proofs.AskedLemmas.{done_at_next}
use Rattle.gb_client_run.proofs.groups.ask_each.Goals as goal

pub members-preserved : goal.members-preserved
members-preserved g c =
    done_at_next g.N.Nodes.asks _ _ _ _ c.args.members.now c.members.place c.index-members-place.result _ _ _ _ (omega (arith, c.members-test.true)) c.index-members-place.is c.members.invariant (c.in_ok-status.ensures (search rules))
