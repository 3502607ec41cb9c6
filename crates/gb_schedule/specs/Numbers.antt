-- The numbers that the words of a text write.
use Rattle.std.specs.Prelude.{◌≡◌, ℕ, ◌<◌, ◌≤◌, ◌^◌, List, [], ◌∷◌, length, drop, map, All, Option, Some, None, decimal}
use Rattle.gb_spelling.specs.Common.{words_of}

-- the word at an index of a text is a number, and this is the index of the next word, if there is one
abbrev pub IsNumberAt : List ℕ → ℕ → ℕ → Option ℕ → Type 0
IsNumberAt text from n None = words_of (drop from text) ≡ decimal n ∷ []
IsNumberAt text from n (Some next) = (next ≤ length text) × (words_of (drop from text) ≡ decimal n ∷ words_of (drop next text))

-- the first word of a text is no number of 64 bits
abbrev pub BeginsWithNoNumber : List ℕ → Type 0
BeginsWithNoNumber text = (n : ℕ) (words : List (List ℕ)) → n < 2 ^ 64 → words_of text ≡ decimal n ∷ words → ⊥

-- these are numbers of 64 bits
abbrev pub AllFit : List ℕ → Type 0
AllFit ns = All (λ n. n < 2 ^ 64) ns

-- there are as many numbers as bounds, and each is at most its bound
abbrev pub AreAtMost : List ℕ → List ℕ → Type 0
AreAtMost [] [] = Unit {0}
AreAtMost (m ∷ most) (n ∷ ns) = (n ≤ m) × AreAtMost most ns
AreAtMost most ns = ⊥

-- the words of a text are these numbers, each at most its bound
abbrev pub AreNumbers : List ℕ → List ℕ → List ℕ → Type 0
AreNumbers most text ns = (words_of text ≡ map decimal ns) × AreAtMost most ns
