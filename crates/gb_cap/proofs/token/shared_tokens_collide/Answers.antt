use Rattle.gb_cap.proofs.CollisionLemmas.{shared_collide}
use Rattle.gb_cap.proofs.token.shared_tokens_collide.Goals as goal

pub returns : goal.returns
returns c = shared_collide
