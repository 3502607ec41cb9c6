-- The laws of the rule of lazy reliable broadcast, and its equality with the module's tests.
use Rattle.std.proofs.Common.{◌||◌, ◌&&◌, nat_eq, refl, ap}
use Rattle.std.specs.FinSet as set
use Rattle.std.proofs.lemmas.Bool.{eq-eqb}
use Rattle.gb_types.specs.declared.kind.Module.TheVariants.{Lazy}
use Rattle.gb_types.proofs.BoolLemmas.{or_more}
use Rattle.gb_layer.specs.Common.{mentions, BroadcastsMore, DeliversMore, BroadcastsItsOwn, BroadcastsAs, DeliversAs}
use Rattle.gb_layer.proofs.RuleLemmas.{noticed_is}
use Rattle.gb_reliable.specs.Rules.{lazy_rules}

pub lazy_more : BroadcastsMore lazy_rules
lazy_more me noticed more m f h = or_more (nat_eq m.origin.number me) _ (nat_eq m.origin.number me) _ (λ e. e) (f m.origin.number) h

pub lazy_delivers_more : DeliversMore lazy_rules
lazy_delivers_more members noticed more_noticed holders more_holders f g h = h

pub lazy_own : BroadcastsItsOwn lazy_rules
lazy_own me noticed m h = ap (λ b. b || set.contains noticed m.origin.number) (eq-eqb m.origin.number me h)

pub lazy_broadcasts_as : BroadcastsAs lazy_rules Lazy
lazy_broadcasts_as me past m = ap (λ b. mentions past m && (nat_eq m.origin.number me || b)) (noticed_is past m.origin.number)

pub lazy_delivers_as : DeliversAs lazy_rules Lazy
lazy_delivers_as me members past m = refl
