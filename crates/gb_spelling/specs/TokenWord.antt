-- Tokens and keys in words.
use Rattle.std.specs.Prelude.{ℕ, List, Option, None, ◌==◌, length, if◌then◌else◌}
use Rattle.std.specs.Result.{result_ok}
use Rattle.hex.specs.Hex.{decode_of}

-- the 32 bytes that a word spells: it is 64 hexadecimal digits, in either case
abbrev pub token_of : List ℕ → Option (List ℕ)
token_of word = if length word == 64 then result_ok (decode_of word) else None
