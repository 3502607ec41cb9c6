use Rattle.gb_types.specs.Common.{◌≡◌, map, take}
use Rattle.gb_client.proofs.task.bytes_of.Given as goal

abbrev pub invariant-loop-word : goal.invariant-loop-word
invariant-loop-word l = map (λ word. word.now) l.bytes.items ≡ take l.word-index (map (λ word. word.now) l.words)
