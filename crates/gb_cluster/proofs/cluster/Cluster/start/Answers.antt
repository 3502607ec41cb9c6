use Rattle.gb_types.specs.Common.{◌≡◌, ℕ, List, [], ◌∷◌, ◌++◌, map, sym, ◌∙◌, ap, arith, range_with_len}
use Rattle.std.proofs.lemmas.List.FromFn.{map-range_with_len_more}
use Rattle.gb_types.specs.declared.node.NodeId.{NodeId}
use Rattle.gb_node.specs.Common.{node_numbered, NodeValue, new_node}
use Rattle.gb_node.proofs.TookLemmas.{numbered_is}
use Rattle.gb_cluster.specs.ClusterValue.{node_plan}
use Rattle.gb_cluster.proofs.CodeLemmas.{started, started_comes}
use Rattle.gb_cluster.proofs.cluster.Cluster.start.Goals as goal

pub loop-number-preserved : goal.loop-number-preserved
loop-number-preserved c =
    let f : ℕ → NodeValue = λ a. new_node (node_plan c.args.plan.now (node_numbered a)) in
    let n = c.loop-number.number in
    let me : c.new-me.result ≡ node_numbered n = sym (numbered_is c.new-me.result) ∙ ap node_numbered c.new-me.ensures in
    let made : c.start.result ≡ f n = c.start.ensures ∙ (ap new_node c.node_plan.ensures ∙ ap (λ (a : NodeId). new_node (node_plan c.args.plan.now a)) me) in
    let items = c.push_reserved.ensures.items in
    let len = c.push_reserved.ensures.len in
    let same = c.push_reserved.ensures.capacity in
    let room = c.loop-number.invariant.2 in
    let count = c.loop-number.invariant.1 in (
      items
          ∙ (ap (λ (vs : List NodeValue). vs ++ c.start.result ∷ []) c.loop-number.invariant.0
          ∙ (ap (λ (v : NodeValue). map f (range_with_len 0 n) ++ v ∷ []) made
          ∙ sym (map-range_with_len_more f 0 n n (omega arith)))),
      omega (arith, len, count),
      omega (arith, same, room),
    )

pub returns-clause-state : goal.returns-clause-state
returns-clause-state c = started c.args.plan.now c.loop-number.number _ _ (omega arith) c.loop-number.invariant.0 c.new.ensures.items

pub returns-clause-comes : goal.returns-clause-comes
returns-clause-comes c = started_comes c.args.plan.now _ c.requires (returns-clause-state c)

pub invariant_of-result : goal.invariant_of-result
invariant_of-result c = ([], returns-clause-comes c)
