-- The refusals, by number and name.
use Rattle.std.specs.Prelude.{ℕ, List, codes}
use Rattle.gb_types.specs.declared.refusal.Refusal.{Refusal}
use Rattle.gb_types.specs.declared.refusal.Refusal.TheVariants.{Denied, NoGroup, Spent, BadMembers, OverReserve, WrongPhase, TooLong, Budget, Bytes, Window, BadPlace, NoRoom, TenantThere, Malformed, Stopped, OutOfMemory}

-- the number of a refusal
abbrev pub refusal_number : Refusal → ℕ
refusal_number Denied = 1
refusal_number NoGroup = 2
refusal_number Spent = 3
refusal_number BadMembers = 4
refusal_number OverReserve = 5
refusal_number WrongPhase = 6
refusal_number TooLong = 7
refusal_number Budget = 8
refusal_number Bytes = 9
refusal_number Window = 10
refusal_number BadPlace = 11
refusal_number NoRoom = 12
refusal_number TenantThere = 13
refusal_number Malformed = 14
refusal_number Stopped = 15
refusal_number OutOfMemory = 16

-- the name of a refusal, as it is written
abbrev pub refusal_name : Refusal → List ℕ
refusal_name Denied = codes "Denied"
refusal_name NoGroup = codes "NoGroup"
refusal_name Spent = codes "Spent"
refusal_name BadMembers = codes "BadMembers"
refusal_name OverReserve = codes "OverReserve"
refusal_name WrongPhase = codes "WrongPhase"
refusal_name TooLong = codes "TooLong"
refusal_name Budget = codes "Budget"
refusal_name Bytes = codes "Bytes"
refusal_name Window = codes "Window"
refusal_name BadPlace = codes "BadPlace"
refusal_name NoRoom = codes "NoRoom"
refusal_name TenantThere = codes "TenantThere"
refusal_name Malformed = codes "Malformed"
refusal_name Stopped = codes "Stopped"
refusal_name OutOfMemory = codes "OutOfMemory"
