use Rattle.gb_types.specs.Common.{length}
use Rattle.gb_serve_words.proofs.limits.+free_place.Given as goal

abbrev pub decreases-free_place : goal.decreases-free_place
decreases-free_place l = length l.named.now
