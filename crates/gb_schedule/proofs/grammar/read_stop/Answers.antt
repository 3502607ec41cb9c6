use Rattle.gb_types.specs.Common.{arith}
use Rattle.gb_schedule.proofs.StepLemmas.{one_within, stop_reads, stop_none}
use Rattle.gb_schedule.proofs.grammar.read_stop.Goals as goal

pub returns-in_err-node : goal.returns-in_err-node
returns-in_err-node c =
    let some = c.requires in
    let is = c.from-last.ensures in
    rw c.from_residual.ensures (stop_none c.args.nodes _ c.args.text.now (omega (arith, some, is)) c.in_err-node.ensures)

pub overflow_cast-node : goal.overflow_cast-node
overflow_cast-node c =
    let is = c.from-last.ensures in
    let few = c.requires in
    let le = one_within _ c.args.text.now c.in_ok-node.field-0 c.in_ok-node.ensures in
    omega (arith, is, few, le)

pub new-requires : goal.new-requires
new-requires c =
    let is = c.from-last.ensures in
    let few = c.requires in
    let le = one_within _ c.args.text.now c.in_ok-node.field-0 c.in_ok-node.ensures in
    omega (arith, is, few, le)

pub returns : goal.returns
returns c =
    let some = c.requires in
    let is = c.from-last.ensures in
    stop_reads c.args.nodes _ c.args.text.now c.in_ok-node.field-0 c.new.result (omega (arith, some, is)) c.in_ok-node.ensures c.new.ensures
