-- The laws of the rule of eager reliable broadcast, and its equality with the module's tests.
use Rattle.std.proofs.Common.{refl}
use Rattle.gb_types.specs.declared.kind.Module.TheVariants.{Eager}
use Rattle.gb_layer.specs.Common.{BroadcastsMore, DeliversMore, BroadcastsItsOwn, BroadcastsAs, DeliversAs}
use Rattle.gb_reliable.specs.Rules.{eager_rules}

pub eager_more : BroadcastsMore eager_rules
eager_more me noticed more m f h = h

pub eager_delivers_more : DeliversMore eager_rules
eager_delivers_more members noticed more_noticed holders more_holders f g h = h

pub eager_own : BroadcastsItsOwn eager_rules
eager_own me noticed m h = refl

pub eager_broadcasts_as : BroadcastsAs eager_rules Eager
eager_broadcasts_as me past m = refl

pub eager_delivers_as : DeliversAs eager_rules Eager
eager_delivers_as me members past m = refl
