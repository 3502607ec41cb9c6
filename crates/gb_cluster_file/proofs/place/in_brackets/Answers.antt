use Rattle.gb_types.specs.Common.{Some, None, [], ◌∷◌, ◌++◌, arith}
use Rattle.std.proofs.lemmas.Str.Pattern.{strip_prefix_char, strip_suffix_char}
use Rattle.gb_cluster_file.proofs.PlaceLemmas.{bracketed}
use Rattle.gb_cluster_file.proofs.place.in_brackets.Goals as goal

pub returns-in-Some : goal.returns-in-Some
returns-in-Some c =
    let front = strip_prefix_char 91 c.args.text.now (Some c.in-Some.rest) c.in-Some.ensures.cases (omega arith) in
    let back = strip_suffix_char 93 c.in-Some.rest.now c.strip_suffix.result c.strip_suffix.ensures.cases (omega arith) in
    bracketed c.args.text.now c.in-Some.rest.now c.strip_suffix.result front back

pub returns-in-None : goal.returns-in-None
returns-in-None c = λ inner is. strip_prefix_char 91 c.args.text.now None c.in-None.ensures.cases (omega arith) (inner ++ 93 ∷ []) is
