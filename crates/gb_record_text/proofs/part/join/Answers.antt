use Rattle.gb_types.specs.Common.{◌+◌, ◌++◌, ◌∷◌, [], sym, subst}
use Rattle.gb_record_text.proofs.JoinLemmas.{IsJoining, joining_more}
use Rattle.gb_record_text.proofs.part.join.Goals as goal

pub parts-preserved : goal.parts-preserved
parts-preserved c =
    let p = c.in-Some.part in
    let first = c.index.result.now.head in
    let all = c.parts.yielded ++ p ∷ [] in
    subst (λ n. IsJoining first.cluster first.tag all c.put_part.new.joined (n + 1)) (sym c.from-least.ensures)
    (joining_more first.cluster first.tag c.parts.yielded c.parts.record c.put_part.new.joined c.parts.least p c.parts.invariant c.in_ok-put_part.ensures.next c.in_ok-put_part.ensures.rising
    c.put_part.ensures.head c.in_ok-put_part.ensures.entries c.in_ok-put_part.ensures.whole)
