-- The calls in a tape and in a list, with one more entry.
use Rattle.gb_types.specs.Common.{◌≡◌, ◌≢◌, ℕ, zero, suc, ◌≤◌, List, [], ◌∷◌, ◌++◌, inl, inr, length, refl, sym, ap, ◌∙◌, arith, cond, Option, Some, None, IfNone, get_or, ne_eqb, eq-eqb, eqb_tells}
use Rattle.gb_node.specs.declared.{tape.TapeEntry.TapeEntry, step.NodeStep.NodeStep}
use Rattle.gb_host.specs.Calls.{Call, calls_of, calls_at, numbered}
use Rattle.gb_host.specs.Closing.{list_at, IsOther}
use Rattle.gb_host.specs.Walk.{left_of, IsWalked}
use Rattle.gb_host.specs.declared.compare.Cursor.{Cursor}

pub at_hit : (node : ℕ) (e : NodeStep) (es : List NodeStep) → e.node.number ≡ node → calls_at node (e ∷ es) ≡ (e.event, e.answer) ∷ calls_at node es
at_hit node e es h = ap (λ b. cond b ((e.event, e.answer) ∷ calls_at node es) (calls_at node es)) (eq-eqb e.node.number node h)

pub at_miss : (node : ℕ) (e : NodeStep) (es : List NodeStep) → e.node.number ≢ node → calls_at node (e ∷ es) ≡ calls_at node es
at_miss node e es h = ap (λ b. cond b ((e.event, e.answer) ∷ calls_at node es) (calls_at node es)) (ne_eqb e.node.number node h)

pub calls_at_append : (k : ℕ) (xs ys : List NodeStep) → calls_at k (xs ++ ys) ≡ calls_at k xs ++ calls_at k ys
calls_at_append k [] ys = refl
calls_at_append k (x ∷ xs) ys =
    elim (eqb_tells x.node.number k) [
      | inl t ↦ at_hit k x (xs ++ ys) t.1 ∙ (ap (λ zs. (x.event, x.answer) ∷ zs) (calls_at_append k xs ys) ∙ ap (λ zs. zs ++ calls_at k ys) (sym (at_hit k x xs t.1)))
      | inr t ↦ at_miss k x (xs ++ ys) t.1 ∙ (calls_at_append k xs ys ∙ ap (λ zs. zs ++ calls_at k ys) (sym (at_miss k x xs t.1)))
    ]

-- an entry with its count, as a call
abbrev pub call_of : TapeEntry → ℕ × Call
call_of e = (e.count, (e.event, e.answer))

pub of_hit : (seat : ℕ) (e : TapeEntry) (es : List TapeEntry) → e.seat ≡ seat → calls_of seat (e ∷ es) ≡ call_of e ∷ calls_of seat es
of_hit seat e es h = ap (λ b. cond b (call_of e ∷ calls_of seat es) (calls_of seat es)) (eq-eqb e.seat seat h)

pub of_miss : (seat : ℕ) (e : TapeEntry) (es : List TapeEntry) → e.seat ≢ seat → calls_of seat (e ∷ es) ≡ calls_of seat es
of_miss seat e es h = ap (λ b. cond b (call_of e ∷ calls_of seat es) (calls_of seat es)) (ne_eqb e.seat seat h)

-- A walk.

-- a walk that has ended
pub walked_all : (node : ℕ) (tape : List TapeEntry) (lists : List (List NodeStep)) (left : List TapeEntry) (cursors : List Cursor) → IsWalked node tape lists left cursors → left ≡ [] → ((s : ℕ) → left_of node lists cursors s ≡ [])
    → (s : ℕ) → calls_of s tape ≡ numbered 0 (calls_at node (list_at lists s))
walked_all node tape lists left cursors walked ended none s = (walked s).1 (ap (calls_of s) ended ∙ sym (none s))

-- Past the end.

pub past_end : {X : Type 0} (xs : List (List X)) (k : ℕ) → length xs ≤ k → get_or xs k [] ≡ []
past_end [] k h = refl
past_end (x ∷ xs) zero h = absurd (omega arith)
past_end (x ∷ xs) (suc k) h = past_end xs k (omega arith)

numbered_none : (n : ℕ) (cs : List Call) → numbered n cs ≡ [] → cs ≡ []
numbered_none n [] h = refl
numbered_none n (c ∷ cs) h = absurd cc

-- a call at a node without a tape
pub misplaced_differs : (tapes : List (List TapeEntry)) (s k : ℕ) (list : List NodeStep) → length tapes ≤ k → calls_at k list ≢ [] → IsOther tapes s list
misplaced_differs tapes s k list past some =
    (k, λ same. some (numbered_none 0 (calls_at k list) (sym same ∙ ap (calls_of s) (past_end tapes k past))))

pub none_map : {X : Type 0} (o : Option X) (P Q : Type 0) → (P → Q) → IfNone o P → IfNone o Q
none_map None P Q f h = f h
none_map (Some x) P Q f h = h
