-- What an audit returns, from the texts of records that it was given.
use Rattle.std.specs.Prelude.{◌≡◌, ◌≢◌, ◌↔◌, ℕ, ◌<◌, List, [], length, map, sum, find, nat_eq, All, AllPairs, Bool}
use Rattle.std.specs.{List.AllZip, List.range_with_len, Option.option_map_or}
use Rattle.gb_types.specs.Common.{version_at}
use Rattle.gb_types.specs.declared.plan.Plan.{Plan}
use Rattle.gb_node.specs.declared.tape.TapeEntry.{TapeEntry}
use Rattle.gb_cluster.specs.Common.{IsClusterPlan}
use Rattle.gb_merge.specs.Common.{IsMergedFront}
use Rattle.gb_record_text.specs.{Fits.FitsRecord, Laws.IsAnswered, Laws.AreSame, Records.IsRecord}
use Rattle.gb_record_text.specs.declared.{head.RecordHead.RecordHead, reader.Record.Record}
use Rattle.gb_audit_run.specs.Counts.{AreCounted}
use Rattle.gb_audit_run.specs.declared.{audit.Audited.Audited, audit.Source.Source, audit.Verdict.TheVariants.Whole, cluster.ClusterKeys.ClusterKeys}

-- two first lines that may be of two nodes of one cluster
pub record AreOfOne (first other : RecordHead) : Type 0 where
  pub nodes : first.nodes ≡ other.nodes
  pub silence : first.silence ≡ other.silence
  pub places : first.places ≡ other.places
  pub room : first.room ≡ other.room
  pub apart : first.node.number ≢ other.node.number

-- the text is that of the record
abbrev pub HasText : Source → Record → Type 0
HasText source r = IsRecord r source.text.now

-- each text is a record, and no two are of one node or of two clusters
pub record AreRecords (sources : List Source) (records : List Record) : Type 0 where
  pub read : AllZip HasText sources records
  pub one : AllPairs (λ (r : Record) (s : Record). AreOfOne r.head s.head) records

-- each answer of the record is one to its event
abbrev pub IsAllAnswered : Record → Type 0
IsAllAnswered r = All IsAnswered r.entries.items

-- the texts are of no records that say anything else, as far as each answer of these is one to its event, as a node's answers are
abbrev pub AreTheOnly : List Source → List Record → Type 0
AreTheOnly sources records = (others : List Record) → AreRecords sources others → All FitsRecord others → All IsAllAnswered others → AllZip AreSame records others

-- what a first line says is what the plan has
pub record IsOfPlan (plan : Plan) (head : RecordHead) : Type 0 where
  pub here : head.node.number < plan.nodes
  pub nodes : head.nodes ≡ plan.nodes
  pub silence : head.silence ≡ plan.silence
  pub places : head.places ≡ plan.places
  pub room : head.room ≡ plan.room
  pub version : version_at plan.versions head.node.number ≡ head.version

-- the record is one of the node's
abbrev pub is_of : ℕ → Record → Bool
is_of b r = nat_eq r.head.node.number b

-- the entries of a node: those of its record, and none if it has no record
abbrev pub entries_of : List Record → ℕ → List TapeEntry
entries_of records b = option_map_or (λ (r : Record). r.entries.items) (find (is_of b) records) []

-- What is audited are these texts: the plan and the tapes are those of their records, under these keys. The texts are of these
-- records alone, and each seat's entries count from 0 on without a gap. The events are a run of the first entries of the tapes, and
-- the verdict is `Whole` exactly if they are all of them.
pub record IsAudit (sources : List Source) (keys : ClusterKeys) (run : Audited) : Type 0 where
  pub records : List Record
  pub are : AreRecords sources records
  pub only : AreTheOnly sources records
  pub counted : All (λ (r : Record). AreCounted r.entries.items) records
  pub plan : IsClusterPlan run.plan
  pub fit : All (λ (r : Record). IsOfPlan run.plan r.head) records
  pub cluster_key : run.plan.cluster_key ≡ keys.cluster
  pub admin_key : run.plan.admin_key ≡ keys.admin
  pub tapes : run.tapes.items ≡ map (entries_of records) (range_with_len 0 run.plan.nodes)
  pub front : IsMergedFront run.plan run.tapes.items run.events.items
  pub whole : (run.verdict ≡ Whole) ↔ (length run.events.items ≡ sum (map length run.tapes.items))
