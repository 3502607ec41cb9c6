-- A relay over `Beb` by a rule that has a module's tests is that module.
use Rattle.gb_types.specs.Common.{◌≡◌, ℕ, not, ◌&&◌, List, [], ◌∷◌, ◌++◌, refl, ◌∙◌}
use Rattle.std.specs.FinSet as set
use Rattle.gb_types.specs.declared.{node.NodeId.NodeId, kind.Module.Module}
use Rattle.gb_layer.specs.declared.call.Call.{Call}
use Rattle.gb_layer.specs.BebMachine.{beb_gives}
use Rattle.gb_layer.specs.Lists.{same_filter}
use Rattle.gb_layer.specs.Machine.{Gives, after, all_ups, messages}
use Rattle.gb_layer.specs.Modules.{first_mentions, now_delivered, now_broadcast, delivers, broadcasts, log, IsLawful}
use Rattle.gb_layer.specs.Relay.{State, at_start, relay_next, relay_gives}
use Rattle.gb_layer.specs.Rule.{Nodes, Rules, BroadcastsMore, DeliversMore, BroadcastsItsOwn, BroadcastsAs, DeliversAs, now_broadcast_by, now_delivered_by, rule_broadcasts, rule_delivers, rule_log}
use Rattle.gb_layer.proofs.RelayOverBebLemmas.{relay_up, relay_out, relay_log}

module _ (rules : Rules) (base : Module) (me : ℕ) (members : Nodes) where
  broadcasts_alike : BroadcastsAs rules base → (c : Call) (past : List Call) → rule_broadcasts rules me c past ≡ broadcasts base me c past
  broadcasts_alike k c past =
      same_filter (λ m. now_broadcast_by rules me (c ∷ past) m && not (now_broadcast_by rules me past m)) (λ m. now_broadcast base me (c ∷ past) m && not (now_broadcast base me past m))
      (λ m. λ i. k me (c ∷ past) m i && not (k me past m i)) (first_mentions (c ∷ past))

  delivers_alike : DeliversAs rules base → (c : Call) (past : List Call) → rule_delivers rules me members c past ≡ delivers base me (set.items members) c past
  delivers_alike k c past =
      same_filter (λ m. now_delivered_by rules me members (c ∷ past) m && not (now_delivered_by rules me members past m))
      (λ m. now_delivered base me (set.items members) (c ∷ past) m && not (now_delivered base me (set.items members) past m))
      (λ m. λ i. k me members (c ∷ past) m i && not (k me members past m i)) (first_mentions (c ∷ past))

  log_alike : DeliversAs rules base → (past : List Call) → rule_log rules me members past ≡ log base me (set.items members) past
  log_alike k [] = refl
  log_alike k (c ∷ past) = λ i. log_alike k past i ++ delivers_alike k c past i

module _ (rules : Rules) (broadcasts_more : BroadcastsMore rules) (delivers_more : DeliversMore rules) (broadcasts_its_own : BroadcastsItsOwn rules) (base : Module) (me : NodeId) (members : Nodes) where
  abbrev N : State NodeId → Call → State NodeId
  N = relay_next (λ s _. s) beb_gives (λ s. s) rules

  abbrev G : State NodeId → Call → Gives
  G = relay_gives (λ s _. s) beb_gives (λ s. s) rules

  pub module_up : DeliversAs rules base → (past : List Call) (c : Call) → IsLawful me.number (c ∷ past) → messages (G (after N (at_start me members) past) c).ups ≡ delivers base me.number (set.items members) c past
  module_up alike past c l = relay_up rules broadcasts_more delivers_more broadcasts_its_own me members past c l ∙ delivers_alike rules base me.number members alike c past

  pub module_out : BroadcastsAs rules base → (past : List Call) (c : Call) → IsLawful me.number (c ∷ past) → (G (after N (at_start me members) past) c).sends ≡ broadcasts base me.number c past
  module_out alike past c l = relay_out rules broadcasts_more delivers_more broadcasts_its_own me members past c l ∙ broadcasts_alike rules base me.number members alike c past

  pub module_log : DeliversAs rules base → (past : List Call) → IsLawful me.number past → messages (all_ups N G (at_start me members) past) ≡ log base me.number (set.items members) past
  module_log alike past l = relay_log rules broadcasts_more delivers_more broadcasts_its_own me members past l ∙ log_alike rules base me.number members alike past

-- a relay over `Beb` by these rules is the module, over every lawful history
pub record IsModule (rules : Rules) (base : Module) : Type 0 where
  pub up : (me : NodeId) (members : Nodes) (past : List Call) (c : Call) → IsLawful me.number (c ∷ past)
      → messages (relay_gives (λ s _. s) beb_gives (λ s. s) rules (after (relay_next (λ s _. s) beb_gives (λ s. s) rules) (at_start me members) past) c).ups ≡ delivers base me.number (set.items members) c past
  pub out : (me : NodeId) (members : Nodes) (past : List Call) (c : Call) → IsLawful me.number (c ∷ past)
      → (relay_gives (λ s _. s) beb_gives (λ s. s) rules (after (relay_next (λ s _. s) beb_gives (λ s. s) rules) (at_start me members) past) c).sends ≡ broadcasts base me.number c past
  pub log : (me : NodeId) (members : Nodes) (past : List Call) → IsLawful me.number past
      → messages (all_ups (relay_next (λ s _. s) beb_gives (λ s. s) rules) (relay_gives (λ s _. s) beb_gives (λ s. s) rules) (at_start me members) past) ≡ log base me.number (set.items members) past

-- a rule that has a module's tests makes the module
pub is_module : (rules : Rules) → BroadcastsMore rules → DeliversMore rules → BroadcastsItsOwn rules → (base : Module) → BroadcastsAs rules base → DeliversAs rules base → IsModule rules base
is_module rules more delivers_more own base broadcasts_as delivers_as = record {
  up = λ me members. module_up rules more delivers_more own base me members delivers_as;
  out = λ me members. module_out rules more delivers_more own base me members broadcasts_as;
  log = λ me members. module_log rules more delivers_more own base me members delivers_as;
}
