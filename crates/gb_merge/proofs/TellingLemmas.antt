-- Packets gathered one by one.
use Rattle.gb_types.specs.Common.{◌≡◌, ℕ, ◌+◌, ◌<◌, List, [], ◌∷◌, ◌++◌, length, take, refl, sym, ◌∙◌, ap, append_assoc, get_or, append-nil, take_more}
use Rattle.gb_node.specs.declared.tape.TapeEntry.{TapeEntry}
use Rattle.gb_merge.specs.Interleaving.{sent_by}
use Rattle.gb_merge.specs.Faults.{sent_of, all_sent}

sent_of-push : (xs : List TapeEntry) (x : TapeEntry) → sent_of (xs ++ x ∷ []) ≡ sent_of xs ++ sent_by x.answer
unfolding sent_of
sent_of-push [] x = append-nil (sent_by x.answer)
sent_of-push (y ∷ xs) x = ap (λ (ps : List (List ℕ)). sent_by y.answer ++ ps) (sent_of-push xs x) ∙ sym (append_assoc (sent_by y.answer) (sent_of xs) (sent_by x.answer))

all_sent-push : (ts : List (List TapeEntry)) (t : List TapeEntry) → all_sent (ts ++ t ∷ []) ≡ all_sent ts ++ sent_of t
unfolding all_sent
all_sent-push [] t = append-nil (sent_of t)
all_sent-push (s ∷ ts) t = ap (λ (ps : List (List ℕ)). sent_of s ++ ps) (all_sent-push ts t) ∙ sym (append_assoc (sent_of s) (all_sent ts) (sent_of t))

pub none_sent : sent_of [] ≡ []
unfolding sent_of
none_sent = refl

pub none_of_all : all_sent [] ≡ []
unfolding all_sent
none_of_all = refl

pub sent_more : (xs : List TapeEntry) (i : ℕ) (x : TapeEntry) (first old new : List (List ℕ)) → i < length xs → x ≡ get_or xs i x → old ≡ first ++ sent_of (take i xs) → new ≡ old ++ sent_by x.answer → new ≡ first ++ sent_of (take (i + 1) xs)
sent_more xs i x first old new within is before grown =
    grown ∙ (ap (λ (ps : List (List ℕ)). ps ++ sent_by x.answer) before ∙ (append_assoc first (sent_of (take i xs)) (sent_by x.answer)
    ∙ ap (λ (ps : List (List ℕ)). first ++ ps) (sym (ap sent_of (take_more xs i x within ∙ ap (λ (z : TapeEntry). take i xs ++ z ∷ []) (sym is)) ∙ sent_of-push (take i xs) x))))

pub all_more : (ts : List (List TapeEntry)) (i : ℕ) (t : List TapeEntry) (old new : List (List ℕ)) → i < length ts → t ≡ get_or ts i t → old ≡ all_sent (take i ts) → new ≡ old ++ sent_of t → new ≡ all_sent (take (i + 1) ts)
all_more ts i t old new within is before grown =
    grown ∙ (ap (λ (ps : List (List ℕ)). ps ++ sent_of t) before ∙ sym (ap all_sent (take_more ts i t within ∙ ap (λ (z : List TapeEntry). take i ts ++ z ∷ []) (sym is)) ∙ all_sent-push (take i ts) t))
