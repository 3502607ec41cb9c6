use Rattle.gb_types.specs.Common.{◌≡◌, [], ap, ◌∙◌, sym, subst}
use Rattle.gb_stack.specs.Layers.{stack_of, StackKnows, stack_grows}
use Rattle.gb_stack.specs.StackState.{untold_stack, IsUntoldStack, stack_me, new_stack}
use Rattle.gb_stack.specs.Stands.{HasStarted}
use Rattle.gb_stack.proofs.StartLemmas.{new_heard, untold_me, was_untold}
use Rattle.gb_stack.proofs.stack.Stack.new.Goals as goal

pub returns-clause-meaning : goal.returns-clause-meaning
returns-clause-meaning c = λ ms.
    let spec = c.args.spec.now in
    let ns = c.new-index.result.list.items in
    let none : ns ≡ [] = c.new-index.ensures in
    let start = c.untold-stack.ensures.meaning ns ∙ ap (untold_stack spec.kind c.args.me) c.duplicate.ensures in
    let heard : stack_of ns c.hear.new.layer ≡ new_stack spec.kind c.args.me spec.members c.args.noticed.now = new_heard spec.kind c.args.me spec.members c.args.noticed.now _ _ c.nodes.ensures.whole start c.hear.ensures.heard in
    let knows : StackKnows [] c.hear.new.layer 0 0 = subst (λ xs. StackKnows xs c.hear.new.layer 0 0) none c.hear.ensures.known in
    (stack_grows [] ms c.hear.new.layer 0 0 knows).0 ∙ (ap (λ xs. stack_of xs c.hear.new.layer) (sym none) ∙ heard)

pub returns-clause-known : goal.returns-clause-known
returns-clause-known c = λ ms.
    let none : c.new-index.result.list.items ≡ [] = c.new-index.ensures in
    let knows : StackKnows [] c.hear.new.layer 0 0 = subst (λ xs. StackKnows xs c.hear.new.layer 0 0) none c.hear.ensures.known in
    (stack_grows [] ms c.hear.new.layer 0 0 knows).1

pub returns-clause-started : goal.returns-clause-started
returns-clause-started c =
    let none : c.new-index.result.list.items ≡ [] = c.new-index.ensures in
    subst (λ xs. HasStarted c.args.me c.args.spec.now.members c.args.noticed.now (stack_of xs c.hear.new.layer)) none (record {
      start = _;
      untold = subst IsUntoldStack (sym (c.untold-stack.ensures.meaning c.new-index.result.list.items)) (was_untold c.args.spec.now.kind c.args.me c.duplicate.result);
      here = ap stack_me (c.untold-stack.ensures.meaning c.new-index.result.list.items) ∙ untold_me c.args.spec.now.kind c.args.me c.duplicate.result;
      heard = c.hear.ensures.heard;
    })
