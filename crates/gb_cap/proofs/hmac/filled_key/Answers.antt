use Rattle.gb_types.specs.Common.{◌++◌, ap₂, length, drop-replicate}
use Rattle.gb_cap.proofs.hmac.filled_key.Goals as goal

pub returns : goal.returns
returns c = ap₂ (λ a b. a ++ b) c.copy_from_slice.ensures.after (drop-replicate (length c.args.key.now) 64 0)
