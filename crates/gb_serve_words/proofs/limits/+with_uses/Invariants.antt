use Rattle.gb_types.specs.Common.{length}
use Rattle.gb_serve_words.proofs.limits.+with_uses.Given as goal

abbrev pub decreases-with_uses : goal.decreases-with_uses
decreases-with_uses l = length l.texts.now
