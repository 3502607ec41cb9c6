use Rattle.gb_types.specs.Common.{refl, arith}
use Rattle.gb_schedule.proofs.GroupLemmas.{fetch_within, first_fetch}
use Rattle.gb_schedule.proofs.grammar.read_first_fetch.Goals as goal

pub overflow_cast-address : goal.overflow_cast-address
overflow_cast-address c =
    let is = c.from-last.ensures in
    let few = c.requires in
    let le = (fetch_within _ c.args.text.now c.in_ok-node.field-0 c.in_ok-node.ensures).1 in
    omega (arith, is, few, le)

pub overflow_cast-address-2 : goal.overflow_cast-address-2
overflow_cast-address-2 c =
    let is = c.from-last.ensures in
    let few = c.requires in
    let le = (fetch_within _ c.args.text.now c.in_ok-node.field-0 c.in_ok-node.ensures).2 in
    omega (arith, is, few, le)

pub overflow_cast-node : goal.overflow_cast-node
overflow_cast-node c =
    let is = c.from-last.ensures in
    let few = c.requires in
    let le = (fetch_within _ c.args.text.now c.in_ok-node.field-0 c.in_ok-node.ensures).0 in
    omega (arith, is, few, le)

pub new-requires : goal.new-requires
new-requires c =
    let is = c.from-last.ensures in
    let few = c.requires in
    let le = (fetch_within _ c.args.text.now c.in_ok-node.field-0 c.in_ok-node.ensures).0 in
    omega (arith, is, few, le)

pub overflow_cast-result : goal.overflow_cast-result
overflow_cast-result c =
    let is = c.from-last.ensures in
    let few = c.requires in
    let le = (fetch_within _ c.args.text.now c.in_ok-node.field-0 c.in_ok-node.ensures).3 in
    omega (arith, is, few, le)

pub overflow_cast-result-2 : goal.overflow_cast-result-2
overflow_cast-result-2 c =
    let is = c.from-last.ensures in
    let few = c.requires in
    let le = (fetch_within _ c.args.text.now c.in_ok-node.field-0 c.in_ok-node.ensures).4 in
    omega (arith, is, few, le)

pub returns : goal.returns
returns c =
    let some = c.requires in
    let is = c.from-last.ensures in
    first_fetch c.args.nodes _ c.args.text.now c.in_ok-node.field-0 c.new.result _ _ (omega (arith, some, is)) c.in_ok-node.ensures c.new.ensures refl refl
