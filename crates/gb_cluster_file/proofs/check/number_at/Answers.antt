use Rattle.gb_types.specs.Common.{◌≤◌, ◌∙◌, Some, ap, sym, subst}
use Rattle.toml.specs.{Data.Data, View.view, View.table_view}
use Rattle.toml.proofs.Views.{table_get}
use Rattle.gb_cluster_file.proofs.FaultLemmas.{no_number}
use Rattle.gb_cluster_file.proofs.ViewLemmas.{find_none, find_some}
use Rattle.gb_cluster_file.specs.Fields.{name_of}
use Rattle.gb_cluster_file.proofs.check.number_at.Goals as goal

pub returns-in-None-clause-ok : goal.returns-in-None-clause-ok
returns-in-None-clause-ok c =
    find_none c.get.result c.name.result.now (name_of c.args.field) (table_view c.args.table.now) (table_get c.get.result c.name.result.now c.args.table.now.entries c.get.ensures.value) c.name.ensures c.in-None.is

pub returns-in-Some-number_of-clause-ok : goal.returns-in-Some-number_of-clause-ok
returns-in-Some-number_of-clause-ok c =
    let at = find_some c.get.result c.name.result.now (name_of c.args.field) (table_view c.args.table.now) c.in-Some.value (table_get c.get.result c.name.result.now c.args.table.now.entries c.get.ensures.value) c.name.ensures c.in-Some.is in
    let read = c.in-Some-number_of.ensures.some in
    (at ∙ ap (λ (d : Data). Some d) read.0, subst (λ l. l ≤ c.in-Some-number_of.number) c.least.ensures read.1, subst (λ l. c.in-Some-number_of.number ≤ l) c.most.ensures read.2)

pub returns-in-None-number_of-clause-err : goal.returns-in-None-number_of-clause-err
returns-in-None-number_of-clause-err c =
    let at = find_some c.get.result c.name.result.now (name_of c.args.field) (table_view c.args.table.now) c.in-Some.value (table_get c.get.result c.name.result.now c.args.table.now.entries c.get.ensures.value) c.name.ensures c.in-Some.is in
    no_number c.args.field (table_view c.args.table.now) (view c.in-Some.value.now) at
    (λ n is low high. c.in-None-number_of.ensures.none n is (subst (λ l. l ≤ n) (sym c.least.ensures) low) (subst (λ l. n ≤ l) (sym c.most.ensures) high))
