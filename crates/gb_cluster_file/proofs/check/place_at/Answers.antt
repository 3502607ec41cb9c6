use Rattle.gb_types.specs.Common.{◌∙◌, Some, ap}
use Rattle.toml.specs.{Data.Data, View.view, View.table_view}
use Rattle.toml.proofs.Views.{table_get}
use Rattle.gb_cluster_file.specs.Fields.{place_name_of}
use Rattle.gb_cluster_file.proofs.ViewLemmas.{find_none, find_some, no_text, no_place_text, string_is}
use Rattle.gb_cluster_file.proofs.check.place_at.Goals as goal

pub returns-in-None-clause-err : goal.returns-in-None-clause-err
returns-in-None-clause-err c =
    find_none c.get.result c.name.result.now (place_name_of c.args.field) (table_view c.args.fields.now) (table_get c.get.result c.name.result.now c.args.fields.now.entries c.get.ensures.value) c.name.ensures c.in-None.is

pub returns-in-None-as_str-clause-err : goal.returns-in-None-as_str-clause-err
returns-in-None-as_str-clause-err c =
    let at = find_some c.get.result c.name.result.now (place_name_of c.args.field) (table_view c.args.fields.now) c.in-Some.value (table_get c.get.result c.name.result.now c.args.fields.now.entries c.get.ensures.value) c.name.ensures c.in-Some.is in
    no_text _ (view c.in-Some.value.now) at c.in-None-as_str.ensures

pub returns-in-None-place_of-clause-err : goal.returns-in-None-place_of-clause-err
returns-in-None-place_of-clause-err c =
    let at = find_some c.get.result c.name.result.now (place_name_of c.args.field) (table_view c.args.fields.now) c.in-Some.value (table_get c.get.result c.name.result.now c.args.fields.now.entries c.get.ensures.value) c.name.ensures c.in-Some.is in
    no_place_text _ (view c.in-Some.value.now) c.in-Some-as_str.text.now at c.in-Some-as_str.ensures c.in-None-place_of.ensures.none

pub returns-in-Some-place_of-clause-ok : goal.returns-in-Some-place_of-clause-ok
returns-in-Some-place_of-clause-ok c =
    let at = find_some c.get.result c.name.result.now (place_name_of c.args.field) (table_view c.args.fields.now) c.in-Some.value (table_get c.get.result c.name.result.now c.args.fields.now.entries c.get.ensures.value) c.name.ensures c.in-Some.is in
    (c.in-Some-as_str.text.now, at ∙ ap (λ (d : Data). Some d) (string_is (view c.in-Some.value.now) c.in-Some-as_str.text.now c.in-Some-as_str.ensures), c.in-Some-place_of.ensures.some)
