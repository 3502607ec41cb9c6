-- The entries of a fifo, one for each message that was handed in, and the steps on them.
use Rattle.std.specs.Prelude.{◌≡◌, ℕ, ◌+◌, ◌<◌, Bool, true, false, cond, not, ◌&&◌, nat_eq, List, [], ◌∷◌, ◌++◌, length, map, count_by, slice_get, take}
use Rattle.std.specs.declared.{option.Option.Option, option.Option.TheVariants.None, option.Option.TheVariants.Some}
use Rattle.std.specs.List.{list_any}
use Prim.Native.Nat.{zero, suc}
use Rattle.gb_types.specs.declared.message.MsgId.{MsgId}
use Rattle.gb_types.specs.Common.{same}
use Rattle.gb_layer.specs.declared.{effects.Up.Up, call.Call.Call, call.Call.TheVariants.Say, call.Call.TheVariants.Came, call.Call.TheVariants.Notice}
use Rattle.gb_fifo.specs.declared.entry.Entry.{Entry}

-- the entry is of m
abbrev pub is_for : MsgId → Entry → Bool
is_for m e = same e.m m

-- an entry of m, which neither came up nor was handed up
abbrev pub blank : MsgId → Entry
blank m = record { m = m; here = false; given = false }

-- the entries, with one of m at the end if there was none
abbrev pub noted : List Entry → MsgId → List Entry
noted es m = cond (list_any (is_for m) es) es (es ++ blank m ∷ [])

-- the entries, with one of the call's message at the end if there was none
abbrev pub noted_by : Call → List Entry → List Entry
noted_by (Say m) es = noted es m
noted_by (Came p m) es = noted es m
noted_by (Notice q) es = es

-- the entry's message came up
abbrev pub brought_entry : Entry → Entry
brought_entry e = record { m = e.m; here = true; given = e.given }

-- m came up: the entry, if it is of m
abbrev pub brought : MsgId → Entry → Entry
brought m e = cond (is_for m e) (brought_entry e) e

-- the entry's message is handed up
abbrev pub given_entry : Entry → Entry
given_entry e = record { m = e.m; here = e.here; given = true }

-- the entry's message was not handed up yet
abbrev pub is_ungiven : Entry → Bool
is_ungiven e = not e.given

-- the entry's message as a pair, which comes up as from its origin
abbrev pub up_of : Entry → Up
up_of e = record { via = e.m.origin; m = e.m }

-- the entry's message is of the origin, and was handed up
abbrev pub is_given_of : ℕ → Entry → Bool
is_given_of s e = nat_eq e.m.origin.number s && e.given

-- the number of messages of an origin that were handed up
abbrev pub given_of : ℕ → List Entry → ℕ
given_of s es = count_by (is_given_of s) es

-- the entry's message came up, was not handed up, and is number k + 1 of the origin
abbrev pub is_next : ℕ → ℕ → Entry → Bool
is_next s k e = (e.here && not e.given) && (nat_eq e.m.origin.number s && nat_eq e.m.seq (k + 1))

-- the entry's message is the next one of the origin to be handed up
abbrev pub next_of : ℕ → List Entry → Entry → Bool
next_of s es = is_next s (given_of s es)

-- the pair of the first entry that passes a test, which is handed up
abbrev pub pick : (Entry → Bool) → List Entry → List Up
pick p [] = []
pick p (e ∷ es) = cond (p e) (up_of e ∷ []) (pick p es)

-- the entries after the first that passes a test was handed up
abbrev pub give : (Entry → Bool) → List Entry → List Entry
give p [] = []
give p (e ∷ es) = cond (p e) (given_entry e ∷ es) (e ∷ give p es)

-- the entries after n times the next message of an origin, if it came up, was handed up
abbrev pub released : ℕ → ℕ → List Entry → List Entry
released s zero es = es
released s (suc n) es = released s n (give (next_of s es) es)

-- the pairs that come up when n times the next message of an origin, if it came up, is handed up
abbrev pub released_ups : ℕ → ℕ → List Entry → List Up
released_ups s zero es = []
released_ups s (suc n) es = pick (next_of s es) es ++ released_ups s n (give (next_of s es) es)

-- the entries after m came up from below, and the messages that this releases were handed up
abbrev pub taken_one : MsgId → List Entry → List Entry
taken_one m es = released m.origin.number (length es) (map (brought m) es)

-- the pairs that come up after m came up from below
abbrev pub taken_one_ups : MsgId → List Entry → List Up
taken_one_ups m es = released_ups m.origin.number (length es) (map (brought m) es)

-- the entries after these pairs came up from below, one by one
abbrev pub taken : List Up → List Entry → List Entry
taken [] es = es
taken (u ∷ us) es = taken us (taken_one u.m es)

-- the pairs that come up after these pairs came up from below, one by one
abbrev pub taken_ups : List Up → List Entry → List Up
taken_ups [] es = []
taken_ups (u ∷ us) es = taken_one_ups u.m es ++ taken_ups us (taken_one u.m es)

-- the place of the first entry that passes a test, if there is one
abbrev pub IsPlace : (Entry → Bool) → List Entry → Option ℕ → Type 0
IsPlace p es None = list_any p es ≡ false
IsPlace p es (Some i) = (i < length es) × ((e : Entry) → slice_get es i ≡ Some e → p e ≡ true) × (list_any p (take i es) ≡ false)
