-- A past as clauses see it, and when it is a story.
use Rattle.std.specs.Prelude.{ℕ, List, [], ◌∷◌, ◌++◌}
use mathlib.Core.List.{IsPrefix}
use Rattle.logbook.specs.Pages.{Book}

-- The identity of a past, and entries that it has, the oldest first
pub record Known (E : Type 0) : Type 0 where
  pub book : Book × ℕ
  pub log : List E

-- Each entry was one that may follow those before it
abbrev pub IsStory : {E : Type 0} → (List E → E → Type 0) → List E → Type 0
IsStory {E} goes_on log = (before : List E) (next : E) → IsPrefix (before ++ next ∷ []) log → goes_on before next
