use Rattle.gb_types.specs.Common.{◌≡◌, map, take}
use Rattle.gb_spelling.specs.Common.{entry_text}
use Rattle.gb_client.proofs.answer.read_entries.Given as goal

abbrev pub invariant-loop-word : goal.invariant-loop-word
invariant-loop-word l = map entry_text l.entries ≡ take l.word-index (map (λ word. word.now) l.words)
