use Rattle.gb_spelling.proofs.GroupWordLemmas.{group_reads, no_number, no_generation}
use Rattle.gb_spelling.proofs.request_words.read_group.Goals as goal

pub returns-in_err-number : goal.returns-in_err-number
returns-in_err-number c =
    no_number _ _ _ c.cut_at_dot.ensures.whole c.cut_at_dot.ensures.front c.in_err-number.ensures c.from_residual.ensures

pub returns-in_err-generation : goal.returns-in_err-generation
returns-in_err-generation c =
    no_generation _ _ _ c.cut_at_dot.ensures.whole c.cut_at_dot.ensures.front c.in_err-generation.ensures c.from_residual-in_err-generation.ensures

pub returns : goal.returns
returns c =
    group_reads _ _ _ _ _ c.cut_at_dot.ensures.whole c.cut_at_dot.ensures.front c.in_ok-number.ensures c.in_ok-generation.ensures
