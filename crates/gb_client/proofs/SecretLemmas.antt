-- Lines, one by one.
use Rattle.gb_types.specs.Common.{◌≡◌, ℕ, suc, ◌+◌, ◌<◌, List, length, map, drop, get_or, ap, sym, ◌∙◌, arith, drop-cons, fold}
use denote.Ref.{Bor}

-- the next line of a text that is read line by line
pub fold_next : {S : Type 0} (f : S → List ℕ → S) (s : S) (lines : List (Bor (List ℕ))) (i : ℕ) (line : Bor (List ℕ)) → i < length lines → line ≡ get_or lines i line
    → fold f (f s line.now) (map (λ l. l.now) (drop (i + 1) lines)) ≡ fold f s (map (λ l. l.now) (drop i lines))
fold_next f s lines i line lt at =
    let next : i + 1 ≡ suc i = omega arith in
    ap (λ n. fold f (f s line.now) (map (λ l. l.now) (drop n lines))) next
    ∙ (ap (λ (x : Bor (List ℕ)). fold f (f s x.now) (map (λ l. l.now) (drop (suc i) lines))) at
    ∙ ap (λ ls. fold f s (map (λ l. l.now) ls)) (sym (drop-cons lines i line lt)))
