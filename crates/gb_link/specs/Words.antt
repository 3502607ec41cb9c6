-- The set of numbers that the two words of a receiver represent.
use Rattle.std.specs.Prelude.{◌≡◌, ℕ, ◌+◌, ◌%◌, ◌^◌, ◌<◌, ◌≤◌, true, not, ◌&&◌, nat_eq}
use Rattle.std.specs.FinSet as set
use Rattle.gb_types.specs.declared.limits.TheConstants.{LAST_FRAME}
use Rattle.gb_types.specs.Common.{below}
use Rattle.gb_link.specs.Ack.{covers}
use Rattle.gb_link.specs.Received.{Received}

-- the numbers from 1 on that an acknowledgement by a base and a mask of 64 bits covers
unfoldable pub covered : ℕ → ℕ → Received
covered base mask = set.retain (set.from_list (below (base + 64))) (λ n. not (nat_eq n 0) && covers base mask n)

-- the invariant of each receiver: base and mask are the acknowledgement of the numbers that they cover
pub record IsReceiver (base mask : ℕ) : Type 0 where
  pub started : 1 ≤ base
  pub word : mask < 2 ^ 64
  pub even : mask % 2 ≡ 0
  pub last : (n : ℕ) → set.contains (covered base mask) n ≡ true → n ≤ LAST_FRAME
