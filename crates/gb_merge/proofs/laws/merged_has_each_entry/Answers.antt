use Rattle.gb_types.specs.Common.{[], ◌∙◌, ap, slice_get}
use Rattle.gb_merge.proofs.CountingLemmas.{count_is, events_sum}
use Rattle.gb_merge.proofs.FindingLemmas.{found_at, taken_so}
use Rattle.gb_merge.proofs.MergingLemmas.{events_count}
use Rattle.gb_merge.proofs.laws.merged_has_each_entry.Goals as goal

pub returns : goal.returns
returns c plan tapes events m = record {
  each = λ a place x there. taken_so plan m.picks events a place x m.are_events (found_at a m.picks place x (ap (λ es. slice_get es place) (m.whole a) ∙ there));
  count = events_count plan [] m.picks events m.are_events ∙ (count_is m.picks tapes m.whole ∙ events_sum tapes);
}
