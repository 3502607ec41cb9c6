-- Each entry of each tape among merged events.
use Rattle.std.specs.Prelude.{ℕ, ◌≡◌, List, length, take, slice_get, sum_by, Some}
use Rattle.gb_node.specs.declared.tape.TapeEntry.{TapeEntry}
use Rattle.gb_cluster.specs.declared.event.Event.{Event}
use Rattle.gb_types.specs.declared.plan.Plan.{Plan}
use Rattle.gb_merge.specs.Interleaving.{Pick, entries_at, tape_of, IsEventOf}
use Rattle.gb_merge.specs.Merged.{IsMerged}
use Rattle.gb_merge.specs.Woven.{sent_with}

-- The entry at the index `place` of a node's tape was taken. The number of entries of this tape that were taken before it is `place`, and its event
-- is in the list at the same index as its pick.
pub record IsTaken (plan : Plan) (picks : List Pick) (events : List Event) (a place : ℕ) (x : TapeEntry) : Type 0 where
  pub at : ℕ
  pub pick : Pick
  pub taken : slice_get picks at ≡ Some pick
  pub here : pick.node.number ≡ a
  pub entry : pick.entry ≡ x
  pub in_turn : length (entries_at a (take at picks)) ≡ place
  pub event : Event
  pub stands : slice_get events at ≡ Some event
  pub is : IsEventOf plan pick.node (sent_with (take at picks)) x.event event

-- each entry of each tape was taken, and nothing else: the number of events is the number of entries
pub record HasEachEntry (plan : Plan) (tapes : List (List TapeEntry)) (events : List Event) (m : IsMerged plan tapes events) : Type 0 where
  pub each : (a place : ℕ) (x : TapeEntry) → slice_get (tape_of tapes a) place ≡ Some x → IsTaken plan m.picks events a place x
  pub count : length events ≡ sum_by length tapes

-- every merged list of events has each entry of each tape, and nothing else
abbrev pub MergedHasEachEntry : Type 0
MergedHasEachEntry = (plan : Plan) (tapes : List (List TapeEntry)) (events : List Event) (m : IsMerged plan tapes events) → HasEachEntry plan tapes events m
