use Rattle.gb_types.specs.Common.{◌≡◌, ◌∙◌, ap, codes, map, []}
use Rattle.std.proofs.lemmas.Result.{IfOk-weaker}
use Rattle.std.specs.Borrow.{Bor}
use Rattle.clap.specs.Words.{Text, all_of, found_of, rows_of}
use Rattle.clap.proofs.WalkLemmas.{raw_values-rows}
use Rattle.gb_door.proofs.AddressLemmas.{all_given, none_given}
use Rattle.gb_door.proofs.words.origins_of.Goals as goal

pub returns-in-Some : goal.returns-in-Some
returns-in-Some c =
    let f = found_of c.args.matches.now in
    let given = all_given c.get_strs.result (all_of (codes "origin") (rows_of f)) (c.get_strs.ensures ∙ raw_values-rows f (codes "origin")) c.in-Some.origins c.in-Some.is in
    IfOk-weaker c.from_slice.result _ _ (λ v is. ap (map (λ (o : Bor Text). o.now)) is ∙ given) c.from_slice.ensures.items

pub returns-in-None : goal.returns-in-None
returns-in-None c =
    let f = found_of c.args.matches.now in
    ap (map (λ (o : Bor Text). o.now)) c.new.ensures.items ∙ none_given c.get_strs.result (all_of (codes "origin") (rows_of f)) (c.get_strs.ensures ∙ raw_values-rows f (codes "origin")) c.in-None.is
