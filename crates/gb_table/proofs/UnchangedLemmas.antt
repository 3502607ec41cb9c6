-- Steps that change none of the waiting items.
use Rattle.gb_types.specs.Common.{◌≡◌, ℕ, List, refl, ap, [], map, drop, true, false, arith, drop_all, nat_cmp, ◌&&◌, not, if◌then◌else◌, Option, Some, None, option_map}
use Rattle.std.specs.FinSet as nodes
use Rattle.gb_types.specs.declared.{reply.Reply.Reply, spec.Spec.Spec, message.MsgId.MsgId, node.NodeId.NodeId}
use Rattle.gb_types.specs.declared.reply.Reply.TheVariants.{Done, Said, Log, Refused}
use Rattle.gb_rules.specs.Common.{is_other, entry_in}
use Rattle.gb_rules.specs.declared.phase.Phase.{Phase}
use Rattle.gb_slot.specs.Common.{slot_done, slot_moved, slot_said, new_slot, waiting, taken_for, SlotState}
use Rattle.gb_table.specs.SlotsValue.{Row, on_slot}
use Rattle.gb_table.specs.Packing.{queue, queue_of}

queue_of-done : (d : ℕ) (b : NodeId) (m : MsgId) (slot : Option SlotState) → queue_of d (option_map (slot_done b m) slot) ≡ queue_of d slot
queue_of-done d b m None = refl
queue_of-done d b m (Some s) = refl

pub queue-done : (d : ℕ) (b : NodeId) (m : MsgId) (row : Row) → queue d (on_slot (slot_done b m) row) ≡ queue d row
queue-done d b m row = queue_of-done d b m row.slot

waiting-moved : (d : ℕ) (phase : Phase) (reply : Reply) (s : SlotState) → waiting (slot_moved phase reply s) d ≡ waiting s d
waiting-moved d phase Done s = refl
waiting-moved d phase (Said seq) s = refl
waiting-moved d phase (Log entries) s = refl
waiting-moved d phase (Refused why) s = refl

queue_of-moved : (d : ℕ) (phase : Phase) (reply : Reply) (slot : Option SlotState) → queue_of d (option_map (slot_moved phase reply) slot) ≡ queue_of d slot
queue_of-moved d phase reply None = refl
queue_of-moved d phase reply (Some s) = waiting-moved d phase reply s

pub queue-moved : (d : ℕ) (phase : Phase) (reply : Reply) (row : Row) → queue d (on_slot (slot_moved phase reply) row) ≡ queue d row
queue-moved d phase reply row = queue_of-moved d phase reply row.slot

-- a say that gets no number
waiting-unsaid : (d : ℕ) (payload : List ℕ) (reply : Reply) (s : SlotState) → ((seq : ℕ) → reply ≡ Said seq → ⊥) → waiting (slot_said payload reply s) d ≡ waiting s d
waiting-unsaid d payload Done s none = refl
waiting-unsaid d payload (Said seq) s none = absurd (none seq refl)
waiting-unsaid d payload (Log entries) s none = refl
waiting-unsaid d payload (Refused why) s none = refl

queue_of-unsaid : (d : ℕ) (payload : List ℕ) (reply : Reply) (slot : Option SlotState) → ((seq : ℕ) → reply ≡ Said seq → ⊥) → queue_of d (option_map (slot_said payload reply) slot) ≡ queue_of d slot
queue_of-unsaid d payload reply None none = refl
queue_of-unsaid d payload reply (Some s) none = waiting-unsaid d payload reply s none

pub queue-unsaid : (d : ℕ) (payload : List ℕ) (reply : Reply) (row : Row) → ((seq : ℕ) → reply ≡ Said seq → ⊥) → queue d (on_slot (slot_said payload reply) row) ≡ queue d row
queue-unsaid d payload reply row none = queue_of-unsaid d payload reply row.slot none

-- nothing waits in a group that was just made
pub waiting-new : (d : ℕ) (spec : Spec) (me : NodeId) (noticed : nodes.FinSet nat_cmp) → waiting (new_slot spec me noticed) d ≡ []
waiting-new d spec me noticed =
    elim (is_other spec me.number d && not (nodes.contains noticed d)) as
    (λ r. (if r then map (entry_in []) (drop (taken_for (new_slot spec me noticed) d) []) else []) ≡ []) [ true ↦ ap (map (entry_in [])) (drop_all (taken_for (new_slot spec me noticed) d) [] (omega arith)) | false ↦ refl ]
