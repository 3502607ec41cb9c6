-- What schedules say of a cluster: how it is started, how many nodes it has, and what it answers.
use Rattle.std.specs.Prelude.{ℕ, length}
use Rattle.gb_cluster.specs.Common.{IsStep, ClusterValue, new_cluster}
use Rattle.gb_cluster.specs.declared.{answer.Answer.Answer, event.Event.Event}
use Rattle.gb_types.specs.declared.plan.Plan.{Plan}
use Rattle.gb_schedule.specs.declared.command.ClusterStart.{ClusterStart}
use Rattle.gb_schedule.specs.Keys.{cluster_key, admin_key}

-- what it is started with: the tenants of a node may make 1,024 groups in all
abbrev pub plan_of : ClusterStart → Plan
plan_of start = record { nodes = start.nodes; versions = start.versions; silence = start.silence; places = 1024; room = start.room; cluster_key = cluster_key; admin_key = admin_key }

-- a cluster that was just started
unfoldable pub started : ClusterStart → ClusterValue
started start = new_cluster (plan_of start)

-- how many nodes it has
abbrev pub size : ClusterValue → ℕ
size v = length v.nodes

-- it takes an event, answers, and goes on so
unfoldable pub Takes : ClusterValue → Event → Answer → ClusterValue → Type 0
Takes before event answer after = IsStep before event answer after
