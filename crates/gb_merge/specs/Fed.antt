-- Tapes without the entries that were refused for lack of memory, and what merging them yields.
use Rattle.std.specs.Prelude.{◌≡◌, ◌<◌, ◌&&◌, not, Bool, true, false, List, [], ◌∷◌, map, filter}
use Rattle.gb_types.specs.declared.{address.Addr.Addr, node.NodeId.NodeId, plan.Plan.Plan}
use Rattle.gb_node.specs.Common.{IsTurn, NodeValue, Happened}
use Rattle.gb_node.specs.declared.{answer.NodeAnswer.NodeAnswer, event.NodeEvent.NodeEvent, tape.TapeEntry.TapeEntry}
use Rattle.gb_cluster.specs.Common.{node_at, past_at}
use Rattle.gb_cluster.specs.declared.event.Event.{Event}
use Rattle.gb_isolation.specs.{Isolation.IsIsolated, Isolation.wants_memory, Project.is_starved_by, Project.replies_in}
use Rattle.gb_merge.specs.Interleaving.{tape_of}
use Rattle.gb_merge.specs.Merged.{IsMerged, run_of, past_of}
use Rattle.gb_merge.specs.Faults.{replay, IsFault}
use Rattle.gb_merge.specs.declared.fault.AuditFault.{AuditFault}

-- the entries of a tape that were not refused for lack of memory
unfoldable pub fed_of : List TapeEntry → List TapeEntry
fed_of entries = filter (λ x. not (wants_memory x.answer)) entries

abbrev pub fed_tapes : List (List TapeEntry) → List (List TapeEntry)
fed_tapes tapes = map fed_of tapes

-- The events are those of the entries that were not refused for lack of memory: an interleaving of these entries, whose run gives their answers.
abbrev pub IsMergedFed : Plan → List (List TapeEntry) → List Event → Type 0
IsMergedFed plan tapes events = IsMerged plan (fed_tapes tapes) events

-- why no events are returned: the tapes without the entries that were refused for lack of memory have the fault
abbrev pub IsFedFault : Plan → List (List TapeEntry) → AuditFault → Type 0
IsFedFault plan tapes fault = IsFault plan (fed_tapes tapes) fault

-- no request of the group was refused for lack of memory at the node, in this past
unfoldable pub is_fed_at : NodeId → Addr → List Happened → Bool
is_fed_at a g [] = true
is_fed_at a g (h ∷ past) = not (is_starved_by a g past h.event h.answer) && is_fed_at a g past

-- The merged events are a run of a cluster, and each group in it is what it is alone.
pub record IsOneRunOfFed (plan : Plan) (tapes : List (List TapeEntry)) (events : List Event) (m : IsMergedFed plan tapes events) : Type 0 where
  -- at each node happened what its tape says without the refused entries
  pub pasts : (a : NodeId) → past_at a (run_of m.picks) ≡ past_of (fed_of (tape_of tapes a.number))
  pub isolated : (g : Addr) → IsIsolated plan (run_of m.picks) m.last g
  -- the refused entries changed nothing: each node ends as the replay of its whole tape, in which a refused entry leaves the node as it was
  pub nodes : (a : NodeId) → a.number < plan.nodes → node_at m.last a ≡ replay plan a (tape_of tapes a.number)
  -- a group that had no request refused for lack of memory at a node got there the replies of the run
  pub replies : (g : Addr) (a : NodeId) → is_fed_at a g (past_of (tape_of tapes a.number)) ≡ true → replies_in a g (past_at a (run_of m.picks)) ≡ replies_in a g (past_of (tape_of tapes a.number))

abbrev pub FedIsOneRun : Type 0
FedIsOneRun = (plan : Plan) (tapes : List (List TapeEntry)) (events : List Event) (m : IsMergedFed plan tapes events) → IsOneRunOfFed plan tapes events m

-- a node that refuses for lack of memory is as it was, whatever the event was
abbrev pub RefusalsLeaveNodes : Type 0
RefusalsLeaveNodes = (old new : NodeValue) (event : NodeEvent) (answer : NodeAnswer) → IsTurn old event answer new → wants_memory answer ≡ true → new ≡ old

-- Reading them.

-- the entries that are read: all of them, or those that were not refused for lack of memory
abbrev pub kept : Bool → List TapeEntry → List TapeEntry
kept true entries = fed_of entries
kept false entries = entries

-- the first entry, if there is one, was not refused for lack of memory
abbrev pub StartsFed : List TapeEntry → Type 0
StartsFed [] = Unit {0}
StartsFed (x ∷ entries) = wants_memory x.answer ≡ false

abbrev pub IsReady : Bool → List TapeEntry → Type 0
IsReady true entries = StartsFed entries
IsReady false entries = Unit {0}
