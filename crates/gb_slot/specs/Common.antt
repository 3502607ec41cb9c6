-- The names that files of crates above cite, passed on from one place. Declares nothing.
pub use Rattle.gb_slot.specs.HistoryLaws.{CameStands, DoneStands, FallsIs, FreshStands, LogIs, MovedStands, NoticedStands, SaidStands, TookStands, WaitingCame, WaitingElsewhere, WaitingNoticed, WaitingSaid, WaitingTook}
pub use Rattle.gb_slot.specs.Slot.{IsWithinLimits, falls, new_slot, own_entry, shown, slot_called, slot_came, slot_done, slot_moved, slot_noticed, slot_said, slot_took, taken_for, unfinished_of, waiting, with_acknowledgement}
pub use Rattle.gb_slot.specs.SlotState.{SlotState}
pub use Rattle.gb_slot.specs.StandsFor.{StandsFor, reaches}
pub use Rattle.gb_slot.specs.Waiting.{WaitsForEach}
