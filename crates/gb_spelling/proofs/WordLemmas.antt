-- The words of a line, by induction on the words and on the line.
use Rattle.gb_types.specs.Common.{◌≡◌, ◌≢◌, ℕ, List, [], ◌∷◌, false, eqb, refl, ap, ◌∙◌, inl, inr, onto_first, join_with_byte, All, cases_eq, eq-eqb, ne_eqb, All-nil, All-cons, All-head, All-tail, All-weaker}
use Rattle.std.proofs.lemmas.List.Splits.{slice_split_none, slice_split_at, join_with_byte-slice_split}
use Rattle.gb_spelling.specs.Words.{words_of, IsWord, WrittenWordsAreRead, EachLineIsItsWords}

no_space : (word : List ℕ) → IsWord word → All (λ byte. eqb byte 32 ≡ false) word
no_space word is_word = All-weaker (λ byte. byte ≢ 32) (λ byte. eqb byte 32 ≡ false) (λ byte other. ne_eqb byte 32 other) word is_word

pub written_words_are_read : WrittenWordsAreRead
written_words_are_read [] some each = absurd (some refl)
written_words_are_read (word ∷ []) some each = slice_split_none (λ byte. eqb byte 32) word (no_space word (All-head IsWord word [] each))
written_words_are_read (word ∷ next ∷ words) some each =
    slice_split_at (λ byte. eqb byte 32) word 32 (join_with_byte 32 (next ∷ words)) (no_space word (All-head IsWord word (next ∷ words) each)) refl
    ∙ ap (λ ws. word ∷ ws) (written_words_are_read (next ∷ words) (λ is. cc is) (All-tail IsWord word (next ∷ words) each))

words_onto : (b : ℕ) (words : List (List ℕ)) → b ≢ 32 → All IsWord words → All IsWord (onto_first b words)
words_onto b [] here each = All-cons IsWord (b ∷ []) [] (All-cons (λ x. x ≢ 32) b [] here (All-nil (λ x. x ≢ 32))) (All-nil IsWord)
words_onto b (word ∷ words) here each =
    All-cons IsWord (b ∷ word) words (All-cons (λ x. x ≢ 32) b word here (All-head IsWord word words each)) (All-tail IsWord word words each)

words_each : (line : List ℕ) → All IsWord (words_of line)
words_each [] = All-cons IsWord [] [] (All-nil (λ x. x ≢ 32)) (All-nil IsWord)
words_each (b ∷ bs) = elim (cases_eq b 32) [
  | inl space ↦ rw (eq-eqb b 32 space) (All-cons IsWord [] (words_of bs) (All-nil (λ x. x ≢ 32)) (words_each bs))
  | inr here ↦ rw (ne_eqb b 32 here) (words_onto b (words_of bs) here (words_each bs))
]

pub each_line_is_its_words : EachLineIsItsWords
each_line_is_its_words line = (join_with_byte-slice_split 32 line, words_each line)
