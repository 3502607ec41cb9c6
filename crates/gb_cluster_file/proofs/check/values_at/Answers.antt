use Rattle.gb_types.specs.Common.{◌≡◌, ◌<◌, ◌∙◌, Some, ap, sym, arith, limits_of}
use Rattle.toml.specs.{Data.Data, View.items_view}
use Rattle.gb_types.specs.declared.version.VersionLimits.{VersionLimits}
use Rattle.gb_cluster_file.specs.Cluster.{item_count}
use Rattle.gb_cluster_file.proofs.ViewLemmas.{item_count-view}
use Rattle.gb_cluster_file.proofs.check.values_at.Goals as goal

pub returns-then-count-most-clause-err : goal.returns-then-count-most-clause-err
returns-then-count-most-clause-err c =
    let counts = item_count-view c.in-Some-values_of.values.now in
    let limit : c.limits.result.nodes ≡ (limits_of c.args.version).nodes = ap (λ (l : VersionLimits). l.nodes) c.limits.ensures.value in
    let more : (limits_of c.args.version).nodes < item_count (items_view c.in-Some-values_of.values.now) = omega (arith, counts, limit, c.from-most.ensures, c.if-count-most.true) in
    (items_view c.in-Some-values_of.values.now, sym c.in-Some.ensures ∙ ap (λ (d : Data). Some d) c.in-Some-values_of.ensures.some, c.requires, more)
