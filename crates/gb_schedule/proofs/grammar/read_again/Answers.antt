use Rattle.gb_types.specs.Common.{refl, arith}
use Rattle.gb_schedule.proofs.StepLemmas.{again_within, again_reads, again_none}
use Rattle.gb_schedule.proofs.grammar.read_again.Goals as goal

pub returns-in_err-node : goal.returns-in_err-node
returns-in_err-node c =
    let some = c.requires in
    let is = c.from-last.ensures in
    rw c.from_residual.ensures (again_none c.args.nodes _ c.args.text.now (omega (arith, some, is)) c.in_err-node.ensures)

pub overflow_cast-node : goal.overflow_cast-node
overflow_cast-node c =
    let is = c.from-last.ensures in
    let few = c.requires in
    let le = (again_within _ c.args.text.now c.in_ok-node.field-0 c.in_ok-node.ensures).0 in
    omega (arith, is, few, le)

pub new-requires : goal.new-requires
new-requires c =
    let is = c.from-last.ensures in
    let few = c.requires in
    let le = (again_within _ c.args.text.now c.in_ok-node.field-0 c.in_ok-node.ensures).0 in
    omega (arith, is, few, le)

pub overflow_cast-to : goal.overflow_cast-to
overflow_cast-to c =
    let is = c.from-last.ensures in
    let few = c.requires in
    let le = (again_within _ c.args.text.now c.in_ok-node.field-0 c.in_ok-node.ensures).1 in
    omega (arith, is, few, le)

pub new-requires-2 : goal.new-requires-2
new-requires-2 c =
    let is = c.from-last.ensures in
    let few = c.requires in
    let le = (again_within _ c.args.text.now c.in_ok-node.field-0 c.in_ok-node.ensures).1 in
    omega (arith, is, few, le)

pub returns : goal.returns
returns c =
    let some = c.requires in
    let is = c.from-last.ensures in
    again_reads c.args.nodes _ c.args.text.now c.in_ok-node.field-0 c.new.result c.new-2.result _ (omega (arith, some, is)) c.in_ok-node.ensures c.new.ensures c.new-2.ensures refl
