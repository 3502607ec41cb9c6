use Rattle.gb_types.specs.Common.{length, ap, ◌∙◌, length-drop, arith}
use Rattle.gb_session.proofs.session.Session.end_of_input.Goals as goal

pub returns-else-self-len : goal.returns-else-self-len
returns-else-self-len c = λ none.
    let left = ap (λ s. length s.kept) c.self.view_is ∙ ap length none in
    omega (arith, left, length-drop c.self.inside.at c.self.inside.bytes.items, c.self.invariant.within)
