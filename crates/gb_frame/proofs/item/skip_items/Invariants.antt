use Rattle.gb_types.specs.Common.{◌≡◌, ◌-◌}
use Rattle.gb_frame.specs.Reading.{items_at}
use Rattle.gb_frame.proofs.WalkLemmas.{behind}
use Rattle.gb_frame.proofs.item.skip_items.Given as goal

abbrev pub invariant-loop : goal.invariant-loop
invariant-loop l = behind (items_at l.fn.version l.limit (l.count - l.counter) l.rest) ≡ behind (items_at l.fn.version l.limit l.count l.texts)
