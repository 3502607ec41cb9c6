use Rattle.gb_types.specs.Common.{rules, tests, ◌≡◌, map, IfOk}
use Rattle.std.proofs.{lemmas.Iterator.Consumers.map_from_collect, lemmas.Iterator.Splits.YieldsList-from_slice_split}
use Rattle.gb_spelling.specs.Words.{words_of}
use Rattle.gb_spelling.proofs.words.split_words.Goals as goal

pub returns : goal.returns
returns c =
    let all : IfOk c.collect.result (λ v. map (λ word. word.now) v.items ≡ words_of c.args.line.now) =
    map_from_collect _ c.collect.ensures.ran (YieldsList-from_slice_split _ _ c.args.line.now c.split.ensures.rest c.split.ensures.done c.split.ensures.closure (λ x r q k. search (rules, tests))) in
    rw c.in_ok-collect.was at all
