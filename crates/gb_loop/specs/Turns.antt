-- Which connection is looked at next.
use Rattle.std.specs.Prelude.{ℕ, ◌%◌, ◌==◌, Bool, true, false, List, [], ◌∷◌, Option, Some, None}

-- every fourth turn is that of the connections of which nothing was admitted
abbrev pub is_strangers_turn : ℕ → Bool
is_strangers_turn turns = turns % 4 == 3

-- who stands first
abbrev pub first : List ℕ → Option ℕ
first [] = None
first (key ∷ keys) = Some key

-- those behind the first
abbrev pub rest : List ℕ → List ℕ
rest [] = []
rest (key ∷ keys) = keys

-- whose turn is next: the first of the line whose turn it is, or of the other one if nobody stands there
abbrev pub next_key : Bool → List ℕ → List ℕ → Option ℕ
next_key true members [] = first members
next_key true members (key ∷ keys) = Some key
next_key false [] strangers = first strangers
next_key false (key ∷ keys) strangers = Some key

-- the line of members behind that turn
abbrev pub members_behind : Bool → List ℕ → List ℕ → List ℕ
members_behind true members [] = rest members
members_behind true members (key ∷ keys) = members
members_behind false members strangers = rest members

-- the line of the others behind that turn
abbrev pub strangers_behind : Bool → List ℕ → List ℕ → List ℕ
strangers_behind true members strangers = rest strangers
strangers_behind false [] strangers = rest strangers
strangers_behind false (key ∷ keys) strangers = strangers
