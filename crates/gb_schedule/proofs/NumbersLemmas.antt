-- The numbers that the words of a text write, read one after the other.
use Rattle.gb_types.specs.Common.{◌≡◌, ◌↔◌, ◌==◌, ◌⊎◌, ◌*◌, ◌-◌, ◌%◌, ℕ, zero, suc, ◌+◌, ◌<◌, ◌≤◌, ◌^◌, List, [], ◌∷◌, ◌++◌, Some, None, length, take, drop, get_or, map, decimal, refl, sym, ap, ◌∙◌, subst, slice_index, inl, inr, false, length-drop, arith, IsInRange, join_with_byte, cases_lt, cases_eq, ne_eqb, take_all, length-take-le, get_or-take, get_or_append_left, get_or-append-add, get_or-drop, drop-drop, All-head, All-tail, All-get_or, All-from_get_or}
use Rattle.std.specs.Str.Parse.{AllDigits, digits_value}
use Rattle.std.proofs.{Math.Nat.mod-eq_of_lt, lemmas.Fmt.decimal_injective, lemmas.Fmt.decimal_is_IsNumeral, lemmas.Fmt.decimal_digit, lemmas.List.Splits.length-slice_split}
use Rattle.std.proofs.lemmas.Str.Parse.{digit_at, digits_value_short, numerals_by_value, tells_digits}
use Rattle.gb_spelling.specs.Common.{words_of}
use Rattle.gb_spelling.proofs.NumberLemmas.{BeginsBadly, not_badly, read_more, reads_back}
use Rattle.gb_spelling.proofs.WordLemmas.{each_line_is_its_words}
use Rattle.gb_types.proofs.ReadLemmas.{Reads, reads_one}
use Rattle.gb_schedule.specs.Numbers.{IsNumberAt, BeginsWithNoNumber, AllFit, AreAtMost, AreNumbers}
use Rattle.gb_schedule.proofs.WordLemmas.{first_space, more_words, last_word}

-- one digit more is read modulo 2^64; up to 19 digits nothing is cut off
pub more_digit : (text : List ℕ) (place number next : ℕ) → place < length text → AllDigits 10 (take place text) → (place ≤ 19 → digits_value 10 (take place text) ≡ number) → IsInRange 48 57 (get_or text place 0)
    → next ≡ (number * 10 % 2 ^ 64 + (get_or text place 0 - 48)) % 2 ^ 64 → AllDigits 10 (take (place + 1) text) × (place + 1 ≤ 19 → digits_value 10 (take (place + 1) text) ≡ next)
more_digit text place number next below all value digit is =
    let before = digits_value 10 (take place text) in
    let more = read_more text place before (before * 10 + (get_or text place 0 - 48)) below (all, refl) digit refl in (
      more.0,
      λ few.
          let count = length-take-le place text (omega (arith, below)) in
          let small : before < 10 ^ 18 = digits_value_short (numerals_by_value (AllDigits 10) tells_digits) (take place text) 18 all (omega (arith, few, count)) in
          let same : before ≡ number = value (omega (arith, few)) in
          let tens : number * 10 % 2 ^ 64 ≡ number * 10 = mod-eq_of_lt {n = number * 10} {m = 2 ^ 64} (omega (arith, small, same)) in
          let whole : (number * 10 + (get_or text place 0 - 48)) % 2 ^ 64 ≡ number * 10 + (get_or text place 0 - 48) = mod-eq_of_lt {n = number * 10 + (get_or text place 0 - 48)} {m = 2 ^ 64} (omega (arith, small, same, digit)) in
          let fits : next ≡ number * 10 + (get_or text place 0 - 48) = is ∙ ap (λ k. (k + (get_or text place 0 - 48)) % 2 ^ 64) tens ∙ whole in
          more.1 ∙ (omega (arith, same, fits)),
    )

-- a first word that spells no number begins no number
pub no_first : (text word : List ℕ) (words : List (List ℕ)) → words_of text ≡ word ∷ words → ((n : ℕ) → (None ≡ Some n) ↔ ((n ≤ 18446744073709551615) × (word ≡ decimal n))) → BeginsWithNoNumber text
no_first text word words are none n others small is =
    let same : word ∷ words ≡ decimal n ∷ others = sym are ∙ is in
    let found : None ≡ Some n = (none n).1 (omega (arith, small), cc) in
    cc found

-- digits that begin a text
module _ (text : List ℕ) (digits : ℕ) (within : digits ≤ length text) (all : AllDigits 10 (take digits text)) where
  no_space : (k : ℕ) → k < digits → (slice_index text k == 32) ≡ false
  no_space k below =
      let count = length-take-le digits text within in
      let digit = digit_at (take digits text) k all (omega (arith, below, count)) in
      let same = get_or-take digits text k 0 below in
      ne_eqb (get_or text k 0) 32 (λ is. omega (arith, digit, same, is))

  -- a text of digits alone is one word
  pub last_digits : digits ≡ length text → words_of text ≡ take digits text ∷ []
  last_digits end =
      let at = first_space text digits within no_space (λ lt. absurd (omega (arith, lt, end))) in
      last_word text (omega (arith, at, end)) ∙ ap (λ w. w ∷ []) (sym (take_all digits text (omega (arith, end))))

  -- a space behind digits ends the first word
  pub next_digits : digits < length text → slice_index text digits ≡ 32 → words_of text ≡ take digits text ∷ words_of (drop (digits + 1) text)
  next_digits below space =
      let at = first_space text digits within no_space (λ lt. space) in
      let words = more_words text (omega (arith, at, below)) in
      subst (λ p. words_of text ≡ take p text ∷ words_of (drop (p + 1) text)) (sym at) words

  -- digits that begin with a zero and have more digits spell no number
  pub zero_first : 1 < digits → get_or text 0 0 ≡ 48 → (n : ℕ) → n < 2 ^ 64 → take digits text ≡ decimal n → ⊥
  zero_first more begin n small is =
      let count = length-take-le digits text within in
      let same = get_or-take digits text 0 0 (omega (arith, more)) in
      not_badly n (take digits text) small is (inr (same ∙ begin, omega (arith, more, count)))

  -- other digits spell the number that they write
  pub digits_spell : (number : ℕ) → number < 2 ^ 64 → digits_value 10 (take digits text) ≡ number → 0 < digits → (1 < digits → get_or text 0 0 ≡ 48 → ⊥) → Reads (λ n. (n ≤ 18446744073709551615) × (take digits text ≡ decimal n)) number
  digits_spell number fits value some well =
      let count = length-take-le digits text within in
      let begins_well : BeginsBadly (take digits text) → ⊥ = bad number some well in
      let is : take digits text ≡ decimal number = sym (reads_back (take digits text) all (omega (arith, value, fits)) begins_well) ∙ ap decimal value in
      reads_one (λ n. (n ≤ 18446744073709551615) × (take digits text ≡ decimal n)) number (omega (arith, fits), is)
      (λ n spelt. decimal_injective number n fits (let le = spelt.0 in omega (arith, le)) (sym is ∙ spelt.1))
    where
      bad : (number : ℕ) → 0 < digits → (1 < digits → get_or text 0 0 ≡ 48 → ⊥) → BeginsBadly (take digits text) → ⊥
      bad number some well (inl none) = let count = length-take-le digits text within in omega (arith, some, count, ap length none)
      bad number some well (inr zeros) =
          let count = length-take-le digits text within in
          let same = get_or-take digits text 0 0 some in
          well (omega (arith, zeros.1, count)) (sym same ∙ zeros.0)

  -- a byte after digits that is no digit and no space is in the first word, which is no number then
  another_byte : (w rest : List ℕ) → AllDigits 10 w → digits < length text → (get_or text digits 0 ≡ 32 → ⊥) → (IsInRange 48 57 (get_or text digits 0) → ⊥) → (text ≡ w) ⊎ (text ≡ w ++ 32 ∷ rest) → ⊥
  another_byte w rest own below space digit (inl same) =
      let count = ap length same in
      digit (subst (λ t. IsInRange 48 57 (get_or t digits 0)) (sym same) (digit_at w digits own (omega (arith, below, count))))
  another_byte w rest own below space digit (inr same) =
      elim (cases_lt digits (length w)) [
        | inl before ↦ digit (subst (λ t. IsInRange 48 57 (get_or t digits 0)) (sym same) (subst (IsInRange 48 57) (sym (get_or_append_left w (32 ∷ rest) 0 digits before)) (digit_at w digits own before)))
        | inr after ↦
            let end : get_or text (length w) 0 ≡ 32 = ap (λ t. get_or t (length w) 0) same ∙ ap (λ k. get_or (w ++ 32 ∷ rest) k 0) (omega arith) ∙ get_or-append-add w (32 ∷ rest) 0 0 in
            elim (cases_lt (length w) digits) [
              | inl inside ↦
                  let count = length-take-le digits text within in
                  let one = digit_at (take digits text) (length w) all (omega (arith, inside, count)) in
                  let here = get_or-take digits text (length w) 0 inside in
                  omega (arith, one, here, end)
              | inr at ↦ space (ap (λ k. get_or text k 0) (omega (arith, at, after)) ∙ end)
            ]
      ]

  pub no_number : digits < length text → (slice_index text digits ≡ 32 → ⊥) → (IsInRange 48 57 (get_or text digits 0) → ⊥) → BeginsWithNoNumber text
  no_number below space digit n [] small is = another_byte (decimal n) [] (decimal_is_IsNumeral n small).0.1 below space digit (inl (sym (each_line_is_its_words text).0 ∙ ap (join_with_byte 32) is))
  no_number below space digit n (next ∷ words) small is =
      another_byte (decimal n) (join_with_byte 32 (next ∷ words)) (decimal_is_IsNumeral n small).0.1 below space digit (inr (sym (each_line_is_its_words text).0 ∙ ap (join_with_byte 32) is))

  -- digits that spell no number begin no number, whatever follows them
  pub no_number_first : (digits < length text → IsInRange 48 57 (get_or text digits 0) → ⊥) → ((n : ℕ) → (None ≡ Some n) ↔ ((n ≤ 18446744073709551615) × (take digits text ≡ decimal n))) → BeginsWithNoNumber text
  no_number_first end none =
      elim (cases_lt digits (length text)) [
        | inl below ↦
            elim (cases_eq (get_or text digits 0) 32) [
              | inl space ↦ no_first text (take digits text) (words_of (drop (digits + 1) text)) (next_digits below space) none
              | inr other ↦ no_number below other (end below)
            ]
        | inr all ↦ no_first text (take digits text) [] (last_digits (omega (arith, all, within))) none
      ]

abbrev fits : ℕ → Type 0
fits n = n < 2 ^ 64

-- a digit spells its value, as a word of its own
one_digit : (text : List ℕ) → 0 < length text → IsInRange 48 57 (get_or text 0 0) → (take 1 text ≡ decimal (get_or text 0 0 - 48)) × AllDigits 10 (take 1 text)
one_digit [] some digit = absurd (omega (arith, some))
one_digit (byte ∷ text) some digit =
    let is : byte ∷ [] ≡ decimal (byte - 48) = ap (λ b. b ∷ []) (omega (arith, digit)) ∙ sym (decimal_digit (byte - 48) (omega (arith, digit))) in
    (is, subst (AllDigits 10) (sym is) (decimal_is_IsNumeral (byte - 48) (omega (arith, digit))).0.1)

-- a digit at an index of a text
module _ (text : List ℕ) (from : ℕ) (below : from < length text) (digit : IsInRange 48 57 (get_or text from 0)) where
  abbrev front : List ℕ
  front = drop from text

  here : get_or front 0 0 ≡ get_or text from 0
  here = get_or-drop from text 0 0 ∙ ap (λ k. get_or text k 0) (omega arith)

  some : 0 < length front
  some = let count = length-drop from text in omega (arith, count, below)

  spelt : (take 1 front ≡ decimal (get_or text from 0 - 48)) × AllDigits 10 (take 1 front)
  spelt =
      let one = one_digit front some (subst (IsInRange 48 57) (sym here) digit) in
      (one.0 ∙ ap (λ b. decimal (b - 48)) here, one.1)

  -- a digit is the last word, where the text ends after it
  pub last_digit : from + 1 ≡ length text → IsNumberAt text from (get_or text from 0 - 48) None
  last_digit end =
      let count = length-drop from text in
      last_digits front 1 (omega (arith, some)) spelt.1 (omega (arith, count, end)) ∙ ap (λ w. w ∷ []) spelt.0

  -- a digit is a word before others, where a space follows it
  pub next_digit : from + 1 < length text → get_or text (from + 1) 0 ≡ 32 → IsNumberAt text from (get_or text from 0 - 48) (Some (from + 1 + 1))
  next_digit more space =
      let count = length-drop from text in
      let rest : drop (1 + 1) front ≡ drop (from + 1 + 1) text = drop-drop (1 + 1) from text ∙ ap (λ k. drop k text) (omega arith) in (
        omega (arith, more),
        next_digits front 1 (omega (arith, some)) spelt.1 (omega (arith, count, more)) (get_or-drop from text 1 0 ∙ space) ∙ ap (λ w. w ∷ words_of (drop (1 + 1) front)) spelt.0 ∙ ap (λ t. decimal (get_or text from 0 - 48) ∷ words_of t) rest,
      )

-- a number that is followed by a word is not the last
pub not_last : (text : List ℕ) (from m next n : ℕ) → IsNumberAt text from m (Some next) → words_of (drop from text) ≡ decimal n ∷ [] → ⊥
not_last text from m next n at last =
    let some = length-slice_split (λ byte. byte == 32) (drop next text) in
    let two : decimal m ∷ words_of (drop next text) ≡ decimal n ∷ [] = sym at.1 ∙ last in
    let none : words_of (drop next text) ≡ [] = cc two in
    omega (arith, some, ap length none)

-- where the next word is no number of 64 bits, the words are no such numbers
pub stops_at : (left front ns : List ℕ) → BeginsWithNoNumber left → AllFit ns → map decimal front ++ words_of left ≡ map decimal ns → ⊥
stops_at left [] [] none fit is = let some = length-slice_split (λ byte. byte == 32) left in omega (arith, some, ap length is)
stops_at left [] (n ∷ ns) none fit is = none n (map decimal ns) (All-head fits n ns fit) is
stops_at left (m ∷ front) [] none fit is = cc is
stops_at left (m ∷ front) (n ∷ ns) none fit is = stops_at left front ns none (All-tail fits n ns fit) cc

-- the words of a text are at most one list of numbers
pub same_numbers : (ns ms : List ℕ) → AllFit ns → AllFit ms → map decimal ns ≡ map decimal ms → ns ≡ ms
same_numbers [] [] fit_ns fit_ms is = refl
same_numbers [] (m ∷ ms) fit_ns fit_ms is = cc is
same_numbers (n ∷ ns) [] fit_ns fit_ms is = cc is
same_numbers (n ∷ ns) (m ∷ ms) fit_ns fit_ms is =
    let first : n ≡ m = decimal_injective n m (All-head fits n ns fit_ns) (All-head fits m ms fit_ms) cc in
    let others : ns ≡ ms = same_numbers ns ms (All-tail fits n ns fit_ns) (All-tail fits m ms fit_ms) cc in
    ap (λ k. k ∷ ns) first ∙ ap (λ ks. m ∷ ks) others

-- numbers within bounds are as many as the bounds
pub as_many : (most ns : List ℕ) → AreAtMost most ns → length ns ≡ length most
as_many [] [] are = refl
as_many [] (n ∷ ns) are = absurd are
as_many (m ∷ most) [] are = absurd are
as_many (m ∷ most) (n ∷ ns) are = ap suc (as_many most ns are.1)

-- each number is at most its bound
pub within : (most ns : List ℕ) (k : ℕ) → AreAtMost most ns → get_or ns k 0 ≤ get_or most k 0
within [] [] k are = omega arith
within [] (n ∷ ns) k are = absurd are
within (m ∷ most) [] k are = absurd are
within (m ∷ most) (n ∷ ns) zero are = are.0
within (m ∷ most) (n ∷ ns) (suc k) are = within most ns k are.1

pub at_most_fit : (most ns : List ℕ) → AllFit most → AreAtMost most ns → AllFit ns
at_most_fit most ns fit are =
    let count = as_many most ns are in
    All-from_get_or fits ns 0 (λ k below. let bound = All-get_or fits most k 0 (omega (arith, below, count)) fit in let le = within most ns k are in omega (arith, bound, le))

pub each_at_most : (most ns : List ℕ) → length ns ≡ length most → ((k : ℕ) → k < length most → get_or ns k 0 ≤ get_or most k 0) → AreAtMost most ns
each_at_most [] [] count le = tt
each_at_most [] (n ∷ ns) count le = cc count
each_at_most (m ∷ most) [] count le = cc count
each_at_most (m ∷ most) (n ∷ ns) count le = (le 0 (omega arith), each_at_most most ns (omega (arith, count)) (λ k below. le (suc k) (omega (arith, below))))

-- numbers that the words of a text write, each within its bound, are the only ones that can be found; where one is above, there are none
module _ (most text ms : List ℕ) (fit_most : AllFit most) (fit : AllFit ms) (words : map decimal ms ≡ words_of text) where
  they_are : (ns : List ℕ) → AreNumbers most text ns → ms ≡ ns
  they_are ns are = same_numbers ms ns fit (at_most_fit most ns fit_most are.1) (words ∙ are.0)

  pub all_read : AreAtMost most ms → Reads (AreNumbers most text) ms
  all_read le = reads_one (AreNumbers most text) ms (sym words, le) they_are

  pub too_large : (place : ℕ) → get_or most place 0 < get_or ms place 0 → (ns : List ℕ) → AreNumbers most text ns → ⊥
  too_large place above ns are =
      let le = within most ns place are.1 in
      let same = ap (λ xs. get_or xs place 0) (they_are ns are) in
      omega (arith, above, le, same)

  pub other_count : (length most ≡ length ms → ⊥) → (ns : List ℕ) → AreNumbers most text ns → ⊥
  other_count other ns are = other (sym (ap length (they_are ns are) ∙ as_many most ns are.1))
