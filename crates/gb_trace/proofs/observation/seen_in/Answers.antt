use Rattle.gb_types.specs.Common.{◌≡◌, ℕ, List, [], ◌∷◌, ◌++◌, map, sym, ◌∙◌, ap, reverse}
use Rattle.gb_types.specs.declared.node.NodeId.{NodeId}
use Rattle.gb_alone.specs.Common.{SeenAt, numbers_below}
use Rattle.gb_alone.proofs.ObservationLemmas.{map_more}
use Rattle.gb_node.specs.Common.{node_numbered}
use Rattle.gb_node.proofs.TookLemmas.{numbered_is}
use Rattle.gb_trace.specs.Observed.{observed_at}
use Rattle.gb_trace.proofs.observation.seen_in.Goals as goal

pub loop-a-preserved : goal.loop-a-preserved
loop-a-preserved c =
    let at : NodeId → SeenAt = observed_at c.args.plan.now c.args.addr (reverse c.args.node_steps.now) in
    let f : ℕ → SeenAt = λ a. at (node_numbered a) in
    let n = c.loop-a.a in
    let me : c.new.result ≡ node_numbered n = sym (numbered_is c.new.result) ∙ ap node_numbered c.new.ensures in
    let found : c.in_ok-seen_at.field-0 ≡ f n = c.in_ok-seen_at.ensures ∙ ap at me in
    c.in_ok-push.ensures.items
    ∙ (ap (λ (xs : List SeenAt). xs ++ c.in_ok-seen_at.field-0 ∷ []) c.loop-a.invariant
    ∙ (ap (λ (s : SeenAt). map f (numbers_below n) ++ s ∷ []) found ∙ sym (map_more f n)))
