use Rattle.gb_types.specs.Common.{◌≡◌, length}
use Rattle.gb_merge.specs.Woven.{IsWoven, AreMarked, sent_with, count_of}
use Rattle.gb_merge.proofs.weave.weave_all.Given as goal

abbrev pub invariant-all : goal.invariant-all
invariant-all l = record {
  woven : IsWoven l.reader l.fn.rest.items l.rest.items l.woven.order.items l.woven.events.items;
  sent : l.sent ≡ sent_with l.woven.order.items;
  count : length l.marks.items ≡ length l.rest.items;
  marked : AreMarked l.reader l.marks.items l.sent l.rest.items;
}

abbrev pub decreases-all : goal.decreases-all
decreases-all l = count_of l.rest.items
