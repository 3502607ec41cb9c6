use Rattle.gb_types.specs.Common.{◌≡◌, ◌∙◌, ap}
use Rattle.gb_types.specs.declared.node.NodeId.{NodeId}
use Rattle.gb_cluster.specs.Common.{past_at}
use Rattle.gb_merge.specs.Fed.{fed_of}
use Rattle.gb_merge.specs.Merged.{run_of, past_of}
use Rattle.gb_merge.proofs.FedLemmas.{tape_of-fed, ends_as_replay, replies_are}
use Rattle.gb_merge.proofs.FeedingLemmas.{ample_run}
use Rattle.gb_merge.proofs.MergingLemmas.{past_is}
use Rattle.gb_merge.specs.Interleaving.{tape_of}
use Rattle.gb_merge.proofs.fed.fed_is_one_run.Goals as goal

pub returns : goal.returns
returns c plan tapes events m =
    let pasts : (a : NodeId) → past_at a (run_of m.picks) ≡ past_of (fed_of (tape_of tapes a.number)) = λ a. past_is a m.picks ∙ ap past_of (m.whole a.number ∙ tape_of-fed tapes a.number) in
    record {
      pasts = pasts;
      isolated = λ g. c.groups_are_isolated.ensures plan (run_of m.picks) m.last m.comes g (c.ample_runs_feed_all.ensures plan (run_of m.picks) (ample_run m.picks m.fed) g);
      nodes = λ a within. ends_as_replay c.packets_say.ensures.starved plan (tape_of tapes a.number) m.picks m.last a m.comes within (pasts a);
      replies = λ g a free. replies_are a g (tape_of tapes a.number) _ (pasts a) free;
    }
