use Rattle.gb_types.specs.Common.{◌∙◌, arith}
use Rattle.gb_types.proofs.{SameLemmas.same_number, ReadLemmas.found, ReadLemmas.only, ReadLemmas.reads_one}
use Rattle.gb_schedule.proofs.RowLemmas.{IsNodeWord}
use Rattle.gb_schedule.proofs.grammar.read_node.Goals as goal

pub overflow_cast-number : goal.overflow_cast-number
overflow_cast-number c = let read = found _ c.in_ok-number.number c.in_ok-number.ensures in omega arith

pub new-requires : goal.new-requires
new-requires c = let read = found _ c.in_ok-number.number c.in_ok-number.ensures in omega arith

pub returns : goal.returns
returns c =
    let read = found _ c.in_ok-number.number c.in_ok-number.ensures in
    reads_one (IsNodeWord c.args.nodes c.args.word.now) c.new.result (omega arith, rw c.new.ensures read.1)
    (λ node spelt. same_number c.new.result node (c.new.ensures ∙ only _ c.in_ok-number.number node.number c.in_ok-number.ensures (omega arith, spelt.1)))
