use Rattle.gb_types.specs.Common.{◌≡◌, ◌++◌, drop, codes, flat_map}
use Rattle.gb_client.proofs.request.put_words.Given as goal

abbrev pub invariant-loop-word : goal.invariant-loop-word
invariant-loop-word l = l.out.items ++ flat_map (λ word. codes " " ++ word.now) (drop l.word-index l.words) ≡ l.initial.out.items ++ flat_map (λ word. codes " " ++ word.now) l.words
