-- The members of a group as a word.
use Rattle.std.specs.Prelude.{ℕ, List, map, decimal}
use Rattle.std.specs.{List.join_with_byte, Ordering.nat_cmp}
use Rattle.std.specs.FinSet as set
use Rattle.gb_types.specs.Common.{rising}

-- the word for a set of members: their numbers, rising, separated by commas (44)
abbrev pub members_word : set.FinSet nat_cmp → List ℕ
members_word s = join_with_byte 44 (map decimal (rising s))
