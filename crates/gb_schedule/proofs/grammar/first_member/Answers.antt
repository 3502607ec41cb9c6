use Rattle.gb_types.specs.Common.{subst, sym, Some, arith, take_rest}
use Rattle.gb_schedule.specs.Numbers.{IsNumberAt}
use Rattle.gb_schedule.proofs.SayLemmas.{first_named}
use Rattle.gb_schedule.proofs.grammar.first_member.Goals as goal

pub returns : goal.returns
returns c =
    let text = c.args.text.now in
    let one : IsNumberAt text 0 c.in_ok-node.node (Some c.in_ok-rest.field-0) = subst (IsNumberAt text 0 c.in_ok-node.node) c.in_ok-rest.was c.in_ok-node.ensures.some in
    let two : IsNumberAt text c.in_ok-rest.field-0 c.in_ok-tenant.tenant (Some c.in_ok-rest-2.field-0) = subst (IsNumberAt text c.in_ok-rest.field-0 c.in_ok-tenant.tenant) c.in_ok-rest-2.was c.in_ok-tenant.ensures.some in
    let three : IsNumberAt text c.in_ok-rest-2.field-0 c.in_ok-group.group (Some c.in_ok-rest-3.rest) = subst (IsNumberAt text c.in_ok-rest-2.field-0 c.in_ok-group.group) c.in_ok-rest-3.was c.in_ok-group.ensures.some in
    let named : IsNumberAt text 0 c.new.result.number (Some c.in_ok-rest.field-0) = subst (λ n. IsNumberAt text 0 n (Some c.in_ok-rest.field-0)) (sym c.new.ensures) one in
    first_named c.args.nodes text _ c.new.result _ _ _ _ _ named two three (omega arith) (omega arith) (omega arith) (take_rest text c.in_ok-rest-3.rest)
