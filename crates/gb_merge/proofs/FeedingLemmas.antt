-- If no answer in the tapes refuses for lack of memory, none does in the run.
use Rattle.gb_types.specs.Common.{◌≡◌, List, [], ◌∷◌, ◌++◌, map, true, false, not, ◌&&◌, refl, sym, ap, ap₂, subst, and_parts, reverse-append}
use Rattle.gb_cluster.specs.Common.{NodeStep}
use Rattle.gb_isolation.specs.Isolation.{is_ample, wants_memory}
use Rattle.gb_merge.specs.Interleaving.{Pick}
use Rattle.gb_merge.specs.Merged.{AreFed, did, run_of}

ample_more : (run more : List NodeStep) → is_ample run ≡ true → is_ample more ≡ true → is_ample (run ++ more) ≡ true
unfolding is_ample
ample_more [] more ample behind = behind
ample_more (d ∷ run) more ample behind =
    let parts = and_parts (not (wants_memory d.answer)) (is_ample run) ample in
    ap₂ (λ a b. a && b) parts.0 (ample_more run more parts.1 behind)

ample_one : (p : Pick) → wants_memory p.entry.answer ≡ false → is_ample (did p ∷ []) ≡ true
unfolding is_ample
ample_one p fed = ap (λ b. not b && true) fed

pub ample_run : (picks : List Pick) → AreFed picks → is_ample (run_of picks) ≡ true
unfolding AreFed is_ample
ample_run [] fed = refl
ample_run (p ∷ picks) fed =
    subst (λ (run : List NodeStep). is_ample run ≡ true) (sym (reverse-append (did p ∷ []) (map did picks)))
    (ample_more (run_of picks) (did p ∷ []) (ample_run picks fed.1) (ample_one p fed.0))
