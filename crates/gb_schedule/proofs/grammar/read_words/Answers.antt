use Rattle.gb_types.specs.Common.{Some, take, sym, ◌∙◌, length-take-le}
use Rattle.gb_types.proofs.ReadLemmas.{words_and_rest}
use Rattle.gb_schedule.proofs.CommandLemmas.{command_found}
use Rattle.gb_schedule.proofs.HeadLemmas.{no_step_behind}
use Rattle.gb_schedule.proofs.grammar.read_words.Goals as goal

pub read_arguments-requires-clause-no_step : goal.read_arguments-requires-clause-no_step
read_arguments-requires-clause-no_step c =
    let words = take c.in-Some.count c.words_in.new.words in
    no_step_behind c.args.nodes c.args.line.now c.in-Some-read_head.head _ _
    (sym c.in-Some.ensures.found.1 ∙ words_and_rest words _ 1 c.in-len1-up.len_at_least)
    c.in-Some-read_head.ensures c.requires.no_step

pub slice_bounds-space-end : goal.slice_bounds-space-end
slice_bounds-space-end c = c.in-Some.ensures.found.0

pub slice_bounds-words-end : goal.slice_bounds-words-end
slice_bounds-words-end c = sym (length-take-le c.in-Some.count c.words_in.new.words c.in-Some.ensures.found.0)

pub returns : goal.returns
returns c =
    let words = take c.in-Some.count c.words_in.new.words in
    command_found (Some c.args.nodes) c.args.line.now c.in-Some-read_head.head _ _ c.read_arguments.result
    (sym c.in-Some.ensures.found.1 ∙ words_and_rest words _ 1 c.in-len1-up.len_at_least)
    c.in-Some-read_head.ensures c.read_arguments.ensures
