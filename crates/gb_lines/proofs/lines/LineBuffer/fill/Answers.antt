use Rattle.gb_types.specs.Common.{common_steps, ◌≡◌, ◌-◌, take, length, ◌∙◌, ap, false, arith, copy_within}
use Rattle.gb_lines.proofs.CutLemmas.{read_behind_in}
use Rattle.gb_lines.proofs.LeftLemmas.{left_read}
use Rattle.gb_lines.proofs.lines.LineBuffer.fill.Goals as goal

pub returns-in-Ok-clause-left : goal.returns-in-Ok-clause-left
returns-in-Ok-clause-left g c =
    let b = c.self.inside in
    let still : b.has_ended ≡ false = ap (λ v. v.has_ended) c.self.view_is ∙ c.requires.goes_on in
    let moved : c.deref_mut.result.now ≡ copy_within b.bytes.items b.start b.end 0 = c.deref_mut.ensures.value ∙ c.move_to_front.ensures.items in
    left_read c.args.self.now _ (take c.in-Ok.count c.read.new.buf) b.has_ended _ _ c.requires.goes_on still
    (rw (← c.self.view_is) (read_behind_in b.bytes.items c.deref_mut.result.now c.read.new.buf _ b.start b.end (length c.deref_mut.result.now - (b.end - b.start)) c.in-Ok.count c.move_to_front.new.bytes.len
    (omega arith) (omega arith) moved (omega (arith, c.in-Ok.ensures.bound.0)) (omega arith) (omega arith) (omega arith)))
    c.in-Ok.ensures.bytes.0

pub invariant_of-self : goal.invariant_of-self
invariant_of-self g c = grind (arith, common_steps)

pub returns-then-self-eq-READS-clause-left : goal.returns-then-self-eq-READS-clause-left
returns-then-self-eq-READS-clause-left g c = grind (arith, common_steps)

pub returns-then-self-eq-READS-clause-unread : goal.returns-then-self-eq-READS-clause-unread
returns-then-self-eq-READS-clause-unread g c = grind (arith, common_steps)

pub invariant_of-self-in-Ok-eq0 : goal.invariant_of-self-in-Ok-eq0
invariant_of-self-in-Ok-eq0 g c = grind (arith, common_steps)

pub invariant_of-self-in-Ok : goal.invariant_of-self-in-Ok
invariant_of-self-in-Ok g c = grind (arith, common_steps)

pub invariant_of-self-in-Err : goal.invariant_of-self-in-Err
invariant_of-self-in-Err g c = grind (arith, common_steps)

pub returns-in-Ok-eq0-clause-left : goal.returns-in-Ok-eq0-clause-left
returns-in-Ok-eq0-clause-left g c = grind (arith, common_steps)

pub returns-in-Err-clause-left : goal.returns-in-Err-clause-left
returns-in-Err-clause-left g c = grind (arith, common_steps)

pub returns-in-Err-clause-unread : goal.returns-in-Err-clause-unread
returns-in-Err-clause-unread g c = grind (arith, common_steps)
