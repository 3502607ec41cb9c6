-- The laws of the rule of all-ack uniform reliable broadcast, and its equality with the module's tests.
use Rattle.std.proofs.Common.{◌≡◌, ℕ, Bool, ◌||◌, ◌&&◌, List, [], ◌∷◌, refl, ap}
use Rattle.std.specs.List.{list_all}
use Rattle.std.specs.FinSet as set
use Rattle.gb_types.specs.declared.kind.Module.TheVariants.{AllAck}
use Rattle.gb_types.proofs.BoolLemmas.{or_more}
use Rattle.gb_layer.specs.Common.{list_all_weaker, mentions, was_noticed, holds, BroadcastsMore, DeliversMore, BroadcastsItsOwn, BroadcastsAs, DeliversAs, noticed_in, holders_in}
use Rattle.gb_layer.proofs.RuleLemmas.{noticed_is, holders_is}
use Rattle.gb_uniform.specs.Rules.{all_ack_rules}

all_alike : (p q : ℕ → Bool) → ((x : ℕ) → p x ≡ q x) → (xs : List ℕ) → list_all p xs ≡ list_all q xs
all_alike p q k [] = refl
all_alike p q k (x ∷ xs) = λ i. k x i && all_alike p q k xs i

pub all_ack_more : BroadcastsMore all_ack_rules
all_ack_more me noticed more m f h = h

pub all_ack_delivers_more : DeliversMore all_ack_rules
all_ack_delivers_more members noticed more_noticed holders more_holders f g h =
    list_all_weaker (λ p. set.contains noticed p || set.contains holders p) (λ p. set.contains more_noticed p || set.contains more_holders p)
    (λ x. or_more _ _ _ _ (f x) (g x)) (set.items members) h

pub all_ack_own : BroadcastsItsOwn all_ack_rules
all_ack_own me noticed m h = refl

pub all_ack_broadcasts_as : BroadcastsAs all_ack_rules AllAck
all_ack_broadcasts_as me past m = refl

pub all_ack_delivers_as : DeliversAs all_ack_rules AllAck
all_ack_delivers_as me members past m =
    ap (λ b. mentions past m && b)
    (all_alike (λ p. set.contains (noticed_in past) p || set.contains (holders_in me past m) p) (λ p. was_noticed past p || holds me past p m)
    (λ p. λ i. noticed_is past p i || holders_is me past p m i) (set.items members))
