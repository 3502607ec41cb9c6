-- The bytes that a packet has for its items.
use Rattle.std.specs.Prelude.{ℕ, ◌-◌}
use Rattle.gb_types.specs.declared.version.Version.{Version}
use Rattle.gb_types.specs.Common.{limits_of}
use Rattle.gb_frame.specs.declared.limits.TheConstants.{SHORTEST}

-- the greatest number of bytes of the items of a packet of a version
abbrev pub room_of : Version → ℕ
room_of version = (limits_of version).packet - SHORTEST
