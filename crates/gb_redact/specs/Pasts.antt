-- Redacted entries are the tape of a node: of one whose keys are those that stand for the keys of the node that did what they tell.
use Rattle.std.specs.Prelude.{◌≡◌, ℕ, ◌<◌, false, List, [], ◌∷◌, ◌++◌, length, take, get_or, map}
use Rattle.gb_types.specs.declared.{node.NodeId.NodeId, spec.TenantRow.TenantRow}
use Rattle.gb_table.specs.Common.{has_token, TableValue}
use Rattle.gb_node.specs.Common.{NodeValue, Happened, ComesTo}
use Rattle.gb_node.specs.declared.{event.NodeEvent.NodeEvent, event.NodeEvent.TheVariants.Request as Asked, plan.NodePlan.NodePlan, tape.TapeEntry.TapeEntry}
use Rattle.gb_redact.specs.Redacted.{redacted_key, redacted_row, rows_in, redacted_request, AreRedacted}

-- an entry as an event with its answer, and the past that entries tell, the newest first
abbrev pub happened : TapeEntry → Happened
happened e = record { event = e.event; answer = e.answer }

abbrev pub past_of : List TapeEntry → List Happened
past_of [] = []
past_of (e ∷ es) = past_of es ++ happened e ∷ []

-- a table with the keys that stand for its administrator's and its tenants', a node with such a table, and what it is started with
abbrev pub redacted_table : TableValue → TableValue
redacted_table t = record t { admin_key = redacted_key t.admin_key; tenants = map redacted_row t.tenants }

abbrev pub redacted_node : NodeValue → NodeValue
redacted_node v = record v { table = redacted_table v.table }

abbrev pub redacted_plan : NodePlan → NodePlan
redacted_plan plan = record plan { admin_key = redacted_key plan.admin_key }

-- a request without the token that it needs does not get it by redaction: 32 zero bytes are not that token
abbrev pub StaysDenied : List ℕ → NodeId → List TenantRow → NodeEvent → Type 0
StaysDenied admin me rows (Asked request) = has_token admin me rows request ≡ false → has_token (redacted_key admin) me (map redacted_row rows) (redacted_request admin me rows request) ≡ false
StaysDenied admin me rows event = Unit {0}

-- no request of the entries does
abbrev pub StayDenied : List ℕ → NodeId → List TapeEntry → Type 0
StayDenied admin me entries = (i : ℕ) (d : TapeEntry) → i < length entries → StaysDenied admin me (rows_in (take i entries)) (get_or entries i d).event

-- If a node comes to a state by what entries tell, then the node with the redacted keys comes by what the redacted entries tell to that state, with redacted keys.
abbrev pub RedactedAreATape : Type 0
RedactedAreATape = (plan : NodePlan) (entries made : List TapeEntry) (v : NodeValue) → ComesTo plan (past_of entries) v → AreRedacted plan.admin_key plan.me entries made
    → StayDenied plan.admin_key plan.me entries → ComesTo (redacted_plan plan) (past_of made) (redacted_node v)
