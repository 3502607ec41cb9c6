use Rattle.gb_types.specs.Common.{◌∙◌, ap}
use Rattle.gb_merge.specs.Merged.{run_of, past_of}
use Rattle.gb_merge.proofs.FeedingLemmas.{ample_run}
use Rattle.gb_merge.proofs.MergingLemmas.{past_is}
use Rattle.gb_merge.proofs.laws.merged_is_one_run.Goals as goal

pub returns : goal.returns
returns c plan tapes events m = record {
  pasts = λ a. past_is a m.picks ∙ ap past_of (m.whole a.number);
  isolated = λ g. c.groups_are_isolated.ensures plan (run_of m.picks) m.last m.comes g (c.ample_runs_feed_all.ensures plan (run_of m.picks) (ample_run m.picks m.fed) g);
}
