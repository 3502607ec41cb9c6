-- A payload that is not too long is within the limit of every version.
use Rattle.gb_types.specs.Common.{◌≡◌, ◌≤◌, ℕ, List, length, false, arith, ltb-false, limits_of, limits_are_within}
use Rattle.gb_types.specs.declared.{limits.TheConstants.PAYLOAD, version.Version.Version}
use Rattle.gb_rules.specs.Group.{is_too_long}

pub within_limit : (version : Version) (payload : List ℕ) → is_too_long version payload ≡ false → length payload ≤ (limits_of version).payload
within_limit version payload e = ltb-false (limits_of version).payload (length payload) e

pub within_greatest : (version : Version) (payload : List ℕ) → is_too_long version payload ≡ false → length payload ≤ PAYLOAD
within_greatest version payload e =
    let short = within_limit version payload e in
    let limit = (limits_are_within version).payload in
    omega (arith, short, limit)
