-- Two replies with one text are equal.
use Rattle.gb_types.specs.Common.{◌≡◌, ℕ, ◌^◌, ◌<◌, List, [], ◌∷◌, ◌++◌, length, get_or, inl, inr, codes, refl, ap, sym, ◌∙◌, arith, decimal, append_assoc, All, flat_map, All-head, All-tail, refusal_number, refusal_name}
use Rattle.std.proofs.lemmas.Fmt.{decimal_injective}
use Rattle.gb_types.specs.declared.{entry.Entry.Entry, refusal.Refusal.Refusal}
use Rattle.gb_types.specs.declared.refusal.Refusal.TheVariants.{Denied, NoGroup, Spent, BadMembers, OverReserve, WrongPhase, TooLong, Budget, Bytes, Window, BadPlace, NoRoom, TenantThere, Malformed, Stopped, OutOfMemory}
use Rattle.gb_types.specs.declared.reply.Reply.TheVariants.{Done, Said, Log, Refused}
use Rattle.gb_spelling.specs.PayloadWord.{payload_word}
use Rattle.gb_spelling.specs.ReplyText.{entry_text, reply_spelling}
use Rattle.gb_spelling.specs.Laws.{FitsEntry, FitsReply, OneTextOneReply}
use Rattle.gb_spelling.proofs.CutLemmas.{Without, Begins, cut, without-append, without-decimal}
use Rattle.gb_spelling.proofs.PayloadLemmas.{same_payload, without-payload_word}
use Rattle.gb_types.proofs.SameLemmas.{same_number}

-- the text of an entry, part after part
parts : (e : Entry) → entry_text e ≡ decimal e.origin.number ++ 58 ∷ (decimal e.seq ++ 58 ∷ payload_word e.payload)
parts e = simp append_assoc

number_fits : (e : Entry) → e.origin.number < 2 ^ 64
number_fits e = let below = e.origin.below in omega arith

-- entries with one text are equal
pub same_entry : (a b : Entry) → FitsEntry a → FitsEntry b → entry_text a ≡ entry_text b → a ≡ b
same_entry a b fa fb e =
    let first = cut 58 (decimal a.origin.number) (decimal b.origin.number) _ _ (without-decimal 58 a.origin.number (λ r. omega (arith, r)) (number_fits a)) (without-decimal 58 b.origin.number (λ r. omega (arith, r)) (number_fits b)) (inr (decimal a.seq ++ 58 ∷ payload_word a.payload, refl)) (inr (decimal b.seq ++ 58 ∷ payload_word b.payload, refl)) (sym (parts a) ∙ (e ∙ parts b)) in
    let rest : decimal a.seq ++ 58 ∷ payload_word a.payload ≡ decimal b.seq ++ 58 ∷ payload_word b.payload = cc (first.1) in
    let second = cut 58 (decimal a.seq) (decimal b.seq) _ _ (without-decimal 58 a.seq (λ r. omega (arith, r)) (let lt = fa.0 in omega arith)) (without-decimal 58 b.seq (λ r. omega (arith, r)) (let lt = fb.0 in omega arith)) (inr (payload_word a.payload, refl)) (inr (payload_word b.payload, refl)) rest in
    let last : payload_word a.payload ≡ payload_word b.payload = cc (second.1) in
    let origin = same_number a.origin b.origin (decimal_injective a.origin.number b.origin.number (number_fits a) (number_fits b) first.0) in
    let seq = decimal_injective a.seq b.seq (let lt = fa.0 in omega arith) (let lt = fb.0 in omega arith) second.0 in
    let payload = same_payload a.payload b.payload fa.1 fb.1 last in
    λ i. record { origin = origin i; seq = seq i; payload = payload i }

-- an entry's text has no space
no_space : (e : Entry) → FitsEntry e → Without 32 (entry_text e)
no_space e f =
    let colon : Without 32 (codes ":") = (λ h. absurd (omega (arith, h)), tt) in
    without-append 32 _ (payload_word e.payload)
    (without-append 32 _ (codes ":")
    (without-append 32 _ (decimal e.seq) (without-append 32 (decimal e.origin.number) (codes ":") (without-decimal 32 e.origin.number (λ r. omega (arith, r)) (number_fits e)) colon) (without-decimal 32 e.seq (λ r. omega (arith, r)) (let lt = f.0 in omega arith)))
    colon)
    (without-payload_word 32 refl (λ h. absurd (omega (arith, h))) e.payload f.1)

-- the texts of entries, each after a space
abbrev spaced : List Entry → List ℕ
spaced = flat_map (λ e. codes " " ++ entry_text e)

begins-spaced : (es : List Entry) → Begins 32 (spaced es)
begins-spaced [] = inl refl
begins-spaced (e ∷ es) = inr (entry_text e ++ spaced es, refl)

-- lists of entries with one text are equal
same_entries : (xs ys : List Entry) → All FitsEntry xs → All FitsEntry ys → spaced xs ≡ spaced ys → xs ≡ ys
same_entries [] [] fx fy e = refl
same_entries [] (y ∷ ys) fx fy e = cc
same_entries (x ∷ xs) [] fx fy e = cc
same_entries (x ∷ xs) (y ∷ ys) fx fy e =
    let here : entry_text x ++ spaced xs ≡ entry_text y ++ spaced ys = cc in
    let fits_x = All-head FitsEntry x xs fx in
    let fits_y = All-head FitsEntry y ys fy in
    let parted = cut 32 (entry_text x) (entry_text y) (spaced xs) (spaced ys) (no_space x fits_x) (no_space y fits_y) (begins-spaced xs) (begins-spaced ys) here in
    let head = same_entry x y fits_x fits_y parted.0 in
    let tail = same_entries xs ys (All-tail FitsEntry x xs fx) (All-tail FitsEntry y ys fy) parted.1 in
    λ i. head i ∷ tail i

-- the refusals, each at its number
in_order : List Refusal
in_order = Denied ∷ Denied ∷ NoGroup ∷ Spent ∷ BadMembers ∷ OverReserve ∷ WrongPhase ∷ TooLong ∷ Budget ∷ Bytes ∷ Window ∷ BadPlace ∷ NoRoom ∷ TenantThere ∷ Malformed ∷ Stopped ∷ OutOfMemory ∷ []

at_number : (r : Refusal) → get_or in_order (refusal_number r) Denied ≡ r
unfolding in_order
at_number Denied = refl
at_number NoGroup = refl
at_number Spent = refl
at_number BadMembers = refl
at_number OverReserve = refl
at_number WrongPhase = refl
at_number TooLong = refl
at_number Budget = refl
at_number Bytes = refl
at_number Window = refl
at_number BadPlace = refl
at_number NoRoom = refl
at_number TenantThere = refl
at_number Malformed = refl
at_number Stopped = refl
at_number OutOfMemory = refl

small : (r : Refusal) → refusal_number r < 2 ^ 64
small Denied = omega arith
small NoGroup = omega arith
small Spent = omega arith
small BadMembers = omega arith
small OverReserve = omega arith
small WrongPhase = omega arith
small TooLong = omega arith
small Budget = omega arith
small Bytes = omega arith
small Window = omega arith
small BadPlace = omega arith
small NoRoom = omega arith
small TenantThere = omega arith
small Malformed = omega arith
small Stopped = omega arith
small OutOfMemory = omega arith

pub same_refusal : (a b : Refusal) → refusal_number a ≡ refusal_number b → a ≡ b
same_refusal a b e = sym (at_number a) ∙ (ap (λ n. get_or in_order n Denied) e ∙ at_number b)

-- ---- replies

decimal_without_space : (n : ℕ) → n < 2 ^ 64 → Without 32 (decimal n)
decimal_without_space n fits = without-decimal 32 n (λ r. omega (arith, r)) fits

same_log : (xs ys : List Entry) → FitsReply (Log xs) → FitsReply (Log ys) → reply_spelling (Log xs) ≡ reply_spelling (Log ys) → xs ≡ ys
same_log xs ys fx fy e =
    let after : decimal (length xs) ++ spaced xs ≡ decimal (length ys) ++ spaced ys = cc in
    let parted = cut 32 (decimal (length xs)) (decimal (length ys)) (spaced xs) (spaced ys) (decimal_without_space _ fx.0) (decimal_without_space _ fy.0) (begins-spaced xs) (begins-spaced ys) after in
    same_entries xs ys fx.1 fy.1 parted.1

same_why : (a b : Refusal) → reply_spelling (Refused a) ≡ reply_spelling (Refused b) → a ≡ b
same_why a b e =
    let after : (decimal (refusal_number a) ++ codes " ") ++ refusal_name a ≡ (decimal (refusal_number b) ++ codes " ") ++ refusal_name b = cc in
    let regrouped : decimal (refusal_number a) ++ 32 ∷ refusal_name a ≡ decimal (refusal_number b) ++ 32 ∷ refusal_name b = sym (append_assoc (decimal (refusal_number a)) (codes " ") (refusal_name a)) ∙ (after ∙ append_assoc (decimal (refusal_number b)) (codes " ") (refusal_name b)) in
    let parted = cut 32 (decimal (refusal_number a)) (decimal (refusal_number b)) _ _ (decimal_without_space _ (small a)) (decimal_without_space _ (small b)) (inr (refusal_name a, refl)) (inr (refusal_name b, refl)) regrouped in
    same_refusal a b (decimal_injective _ _ (small a) (small b) parted.0)

same_said : (m n : ℕ) → m < 2 ^ 16 → n < 2 ^ 16 → reply_spelling (Said m) ≡ reply_spelling (Said n) → m ≡ n
same_said m n fm fn e = let after : decimal m ≡ decimal n = cc in decimal_injective m n (omega arith) (omega arith) after

-- texts that begin with different bytes are different
apart : {P : Type 0} {a b : ℕ} {xs ys : List ℕ} → (a ≡ b → ⊥) → a ∷ xs ≡ b ∷ ys → P
apart {a = a} other e = absurd (other (ap (λ t. get_or t 0 a) e))

pub same_reply : OneTextOneReply
same_reply Done Done fa fb e = refl
same_reply Done (Said n) fa fb e = apart (λ (h : 111 ≡ 115). omega (arith, h)) e
same_reply Done (Log ys) fa fb e = apart (λ (h : 111 ≡ 108). omega (arith, h)) e
same_reply Done (Refused b) fa fb e = apart (λ (h : 111 ≡ 114). omega (arith, h)) e
same_reply (Said m) Done fa fb e = apart (λ (h : 115 ≡ 111). omega (arith, h)) e
same_reply (Said m) (Said n) fa fb e = ap Said (same_said m n fa fb e)
same_reply (Said m) (Log ys) fa fb e = apart (λ (h : 115 ≡ 108). omega (arith, h)) e
same_reply (Said m) (Refused b) fa fb e = apart (λ (h : 115 ≡ 114). omega (arith, h)) e
same_reply (Log xs) Done fa fb e = apart (λ (h : 108 ≡ 111). omega (arith, h)) e
same_reply (Log xs) (Said n) fa fb e = apart (λ (h : 108 ≡ 115). omega (arith, h)) e
same_reply (Log xs) (Log ys) fa fb e = ap Log (same_log xs ys fa fb e)
same_reply (Log xs) (Refused b) fa fb e = apart (λ (h : 108 ≡ 114). omega (arith, h)) e
same_reply (Refused a) Done fa fb e = apart (λ (h : 114 ≡ 111). omega (arith, h)) e
same_reply (Refused a) (Said n) fa fb e = apart (λ (h : 114 ≡ 115). omega (arith, h)) e
same_reply (Refused a) (Log ys) fa fb e = apart (λ (h : 114 ≡ 108). omega (arith, h)) e
same_reply (Refused a) (Refused b) fa fb e = ap Refused (same_why a b e)
