-- The laws of the rule of majority-ack uniform reliable broadcast, and its equality with the module's tests.
use Rattle.std.proofs.Common.{◌&&◌, refl, sym}
use Rattle.std.specs.FinSet as set
use Rattle.gb_types.specs.declared.kind.Module.TheVariants.{Majority}
use Rattle.gb_types.specs.Common.{has_majority}
use Rattle.gb_types.proofs.MajorityLemmas.{listed, majority_more}
use Rattle.gb_layer.specs.Common.{mentions, BroadcastsMore, DeliversMore, BroadcastsItsOwn, BroadcastsAs, DeliversAs}
use Rattle.gb_layer.proofs.RuleLemmas.{holders_is}
use Rattle.gb_uniform.specs.Rules.{majority_ack_rules}

pub majority_ack_more : BroadcastsMore majority_ack_rules
majority_ack_more me noticed more m f h = h

pub majority_ack_delivers_more : DeliversMore majority_ack_rules
majority_ack_delivers_more members noticed more_noticed holders more_holders f g h =
    majority_more (set.contains members) (set.contains holders) (set.contains more_holders) (λ p in_p. g p) h

pub majority_ack_own : BroadcastsItsOwn majority_ack_rules
majority_ack_own me noticed m h = refl

pub majority_ack_broadcasts_as : BroadcastsAs majority_ack_rules Majority
majority_ack_broadcasts_as me past m = refl

pub majority_ack_delivers_as : DeliversAs majority_ack_rules Majority
majority_ack_delivers_as me members past m = λ i. mentions past m && has_majority (λ p. sym (listed members p) i) (λ p. holders_is me past p m i)
