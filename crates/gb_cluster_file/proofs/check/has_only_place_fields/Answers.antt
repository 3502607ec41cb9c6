use Rattle.gb_types.specs.Common.{◌≡◌, ◌∙◌, true, false, [], ◌∷◌, ◌++◌, ap, sym, append_assoc, string_bytes, rules}
use Rattle.toml.specs.View.{members_view}
use Rattle.toml.proofs.Views.{Entry}
use Rattle.gb_cluster_file.specs.Cluster.{all_keys}
use Rattle.gb_cluster_file.specs.Fields.{is_place_name}
use Rattle.gb_cluster_file.proofs.ViewLemmas.{keys_more, keys_refused}
use Rattle.gb_cluster_file.proofs.check.has_only_place_fields.Goals as goal

pub loop-key-preserved : goal.loop-key-preserved
loop-key-preserved c =
    let done = c.loop-key.invariant.0 in
    let e : Entry = (c.in-Some.key.now, c.in-Some._value.now) in
    let left = c.next.new.self in
    let all : c.args.table.now.entries ≡ done ++ e ∷ left = c.loop-key.invariant.1 ∙ ap (λ es. done ++ es) c.in-Some.ensures.steps in
    let known : is_place_name (string_bytes c.in-Some.key.now) ≡ true = search rules in
    (done ++ e ∷ [], all ∙ sym (append_assoc done (e ∷ []) left), keys_more is_place_name done e c.loop-key.invariant.2 known)

pub returns-then-not-is_place_field : goal.returns-then-not-is_place_field
returns-then-not-is_place_field c =
    let done = c.loop-key.invariant.0 in
    let e : Entry = (c.in-Some.key.now, c.in-Some._value.now) in
    let left = c.next.new.self in
    let all : c.args.table.now.entries ≡ done ++ e ∷ left = c.loop-key.invariant.1 ∙ ap (λ es. done ++ es) c.in-Some.ensures.steps in
    let unknown : is_place_name (string_bytes c.in-Some.key.now) ≡ false = search rules in
    sym (ap (λ es. all_keys is_place_name (members_view es)) all ∙ keys_refused is_place_name done e left unknown)
