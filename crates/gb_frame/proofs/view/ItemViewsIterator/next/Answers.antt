use Rattle.gb_types.specs.Common.{◌<◌, List, length, sym, subst, ◌∙◌, arith}
use Rattle.gb_frame.specs.declared.item.Item.{Item}
use Rattle.gb_frame.specs.Batch.{batch_in}
use Rattle.gb_frame.proofs.BatchLemmas.{none_first, one_first}
use Rattle.gb_frame.proofs.view.ItemViewsIterator.next.Goals as goal

pub returns-in_default-clause-steps : goal.returns-in_default-clause-steps
returns-in_default-clause-steps c = let none = sym c.self.view_is ∙ none_first c.self.inside.version c.self.inside.texts.now c.in_default.ensures in (none, none)

pub returns-clause-steps : goal.returns-clause-steps
returns-clause-steps c = sym c.self.view_is ∙ one_first c.self.inside.version c.self.inside.texts.now _ c.in-Some.rest.now c.in-Some.ensures

pub returns-clause-goes : goal.returns-clause-goes
returns-clause-goes c =
    let first = sym c.self.view_is ∙ one_first c.self.inside.version c.self.inside.texts.now _ c.in-Some.rest.now c.in-Some.ensures in
    record { on = λ _. (tt, tt, subst (λ (l : List Item). length (batch_in c.self.inside.version c.in-Some.rest.now) < length l) (sym first) (omega arith)); keeps = tt; rests = λ _. tt }
