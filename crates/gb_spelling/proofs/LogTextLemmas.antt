-- The lengths of the texts of a log's entries.
use Rattle.gb_types.specs.Common.{◌≡◌, ℕ, ◌+◌, ◌*◌, ◌<◌, ◌≤◌, ◌^◌, List, [], ◌∷◌, ◌++◌, length, codes, refl, arith, length-append}
use Rattle.std.proofs.lemmas.Fmt.{length-decimal-le}
use Rattle.hex.specs.Hex.{encode_lower, lower_digits}
use Rattle.hex.proofs.HexLemmas.{length-encode_with}
use Rattle.gb_types.specs.declared.entry.Entry.{Entry}
use Rattle.gb_spelling.specs.PayloadWord.{payload_word}
use Rattle.gb_spelling.specs.ReplyText.{entry_text}

-- a payload with bytes has two digits for each
pub payload_digits : (bytes : List ℕ) → 0 < length bytes → (payload_word bytes ≡ encode_lower bytes) × (length (payload_word bytes) ≡ 2 * length bytes)
payload_digits [] some = absurd (omega (arith, some))
payload_digits (b ∷ bytes) some = (refl, length-encode_with lower_digits (b ∷ bytes))

payload_room : (bytes : List ℕ) → length (payload_word bytes) ≤ 2 * length bytes + 1
payload_room [] = omega arith
payload_room (b ∷ bytes) = omega (arith, length-encode_with lower_digits (b ∷ bytes))

-- the room that an entry needs after a space
pub entry_room : (e : Entry) → e.seq < 2 ^ 16 → length (codes " " ++ entry_text e) ≤ length e.payload * 2 + 11
entry_room e small =
    let below = e.origin.below in
    let origin = length-decimal-le 2 e.origin.number (omega arith) (omega (arith, below)) (omega (arith, below)) in
    let seq = length-decimal-le 5 e.seq (omega arith) (omega arith) (omega arith) in
    let payload = payload_room e.payload in
    grind (arith, length-append, origin, seq, payload)
