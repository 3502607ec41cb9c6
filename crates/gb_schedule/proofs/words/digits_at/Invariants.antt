use Rattle.gb_types.specs.Common.{◌≡◌, ◌≤◌, ◌-◌, take, drop}
use Rattle.std.specs.Str.Parse.{AllDigits, digits_value}
use Rattle.gb_schedule.proofs.words.digits_at.Given as goal

-- the bytes so far are digits, and while they are few, this is the number that they write
abbrev pub invariant-loop-place : goal.invariant-loop-place
invariant-loop-place l = AllDigits 10 (take (l.place - l.from) (drop l.from l.text)) × (l.place - l.from ≤ 19 → digits_value 10 (take (l.place - l.from) (drop l.from l.text)) ≡ l.number)
