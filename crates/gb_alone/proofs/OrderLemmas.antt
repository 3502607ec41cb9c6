-- The order of each origin's messages in the logs of a group.
use Rattle.gb_types.specs.Common.{ℕ, Bool, true, false, List, [], Option, Some, None, refl, sym, subst, if◌then◌else◌}
use Rattle.std.specs.FinSet as set
use Rattle.gb_types.specs.declared.spec.Spec.{Spec}
use Rattle.gb_fifo.specs.Order.{RunsFromOne}
use Rattle.gb_rules.specs.Common.{kind_log_in_order, calls_of, is_gone}
use Rattle.gb_rules.specs.declared.call.GroupCall.{GroupCall}
use Rattle.gb_alone.specs.Alone.{alone, log_at}
use Rattle.gb_alone.specs.Laws.{KeepsOrder, IsInOrder}
use Rattle.gb_alone.proofs.KnownLemmas.{messages-log}

log_in_order : (me : ℕ) (o : Option Spec) (told : List GroupCall) → KeepsOrder o (log_at me o told)
log_in_order me None told = tt
log_in_order me (Some spec) told = λ fifo. subst RunsFromOne (sym (messages-log spec me told)) (kind_log_in_order spec.kind me (set.items spec.members) (calls_of told) fifo)

empty_in_order : (o : Option Spec) → KeepsOrder o []
empty_in_order None = tt
empty_in_order (Some spec) = λ fifo s. refl

held_in_order : (me : ℕ) (gone : Bool) (o : Option Spec) (told : List GroupCall) → KeepsOrder o (log_at me (if gone then None else o) told)
held_in_order me true o told = empty_in_order o
held_in_order me false o told = log_in_order me o told

pub in_order : IsInOrder
in_order bounds addr steps legal b = held_in_order b (is_gone (alone bounds addr steps b).phase) (alone bounds addr steps b).spec (alone bounds addr steps b).told
