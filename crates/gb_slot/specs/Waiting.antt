-- The nodes for which something waits.
use Rattle.std.specs.Prelude.{ℕ, ◌≡◌, ◌<◌, true, length}
use Rattle.gb_slot.specs.Slot.{waiting}
use Rattle.gb_slot.specs.SlotState.{SlotState}
use Rattle.gb_slot.specs.StandsFor.{reaches}

-- something waits for each node to which items are put out
abbrev pub WaitsForEach : SlotState → Type 0
WaitsForEach s = (b : ℕ) → reaches s b ≡ true → 0 < length (waiting s b)
