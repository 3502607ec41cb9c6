use Rattle.gb_types.specs.Common.{◌≡◌, ℕ, ◌<◌, ◌≤◌, ◌+◌, true, false, List, [], length, ap, sym, subst, ◌∙◌, arith, not, set, get_or_default, rising_from}
use Rattle.std.specs.FinSet as nodes
use Rattle.gb_types.specs.declared.limits.TheConstants.{NODES}
use Rattle.gb_slot.specs.Common.{reaches}
use Rattle.gb_table.specs.Busy.{IsPlaced}
use Rattle.gb_table.proofs.NotedLemmas.{written_none, written_more, written_further, first_member, no_member, reached_member, reached_outside}
use Rattle.gb_table.proofs.index.note_reached.Goals as goal
use Rattle.gb_table.proofs.index.note_reached.Goals.{then-not-contains, else-not-contains}

pub loop-node-init : goal.loop-node-init
loop-node-init c = written_none c.args.place _ _ c.args.busy.now

pub insert-requires : goal.insert-requires
insert-requires c =
    let s = c.args.slot.now in
    let busy = c.loop-node.busy in
    let from = c.loop-node.from in
    let node = c.index.result in
    let is = c.index.ensures.value in
    let size = c.loop-node.invariant.size in
    let all = c.duplicate-members.ensures ∙ c.members.ensures in
    let found = ap (λ m. rising_from m from) (sym all) ∙ c.in-Some.ensures in
    let first = first_member s.spec.members from c.in-Some.node.number _ found in
    let member : nodes.contains s.spec.members node ≡ true = ap (nodes.contains s.spec.members) is ∙ first.member in
    let was = c.requires.words.each node c.index.ensures.bound member in
    let kept = c.loop-node.invariant.words node in
    let at = ap (λ (ws : List ℕ). length ws) (get_or_default busy node [] c.index-busy-index.result (omega (arith, c.requires.size, c.index.ensures.bound))) in
    omega arith

pub loop-node-preserved : goal.loop-node-preserved
loop-node-preserved c =
    let s = c.args.slot.now in
    let old = c.args.busy.now in
    let busy = c.loop-node.busy in
    let from = c.loop-node.from in
    let node = c.index-from.result in
    let is = c.index-from.ensures.value in
    let size = c.loop-node.invariant.size in
    let all = c.duplicate-members.ensures ∙ c.members.ensures in
    let found = ap (λ m. rising_from m from) (sym all) ∙ c.in-Some.ensures in
    let first = first_member s.spec.members from c.in-Some.node.number _ found in
    let member : nodes.contains s.spec.members node ≡ true = ap (nodes.contains s.spec.members) is ∙ first.member in
    let reached : reaches s node ≡ not c.contains.result =
    reached_member s node member ∙ ap not (ap (nodes.contains _) is ∙ ap (λ m. nodes.contains m c.in-Some.node.number) (sym c.passed_over-passed_over.ensures) ∙ sym c.contains.ensures) in
    let before : (d : ℕ) → from ≤ d → d < node → reaches s d ≡ false = λ d le lt. reached_outside s d (first.before d le (omega (arith, is, lt))) in
    let walked = written_further from node c.args.place (reaches s) (λ _. 1) old busy before c.loop-node.invariant in
    elim c.if-not-contains.branch [
      | then-not-contains w ↦
          let same : w.index.result ≡ node = w.index.ensures.value ∙ sym is in
          let there : w.index.result < length busy = omega (arith, c.requires.size, w.index.ensures.bound) in
          let now = subst (λ n. IsPlaced n c.args.place s old busy) (sym same) walked in
          rw w.busy-is (subst (λ n. IsPlaced (n + 1) c.args.place s old (set busy w.index.result w.insert.new.self)) same
          (written_more w.index.result c.args.place (reaches s) (λ _. 1) old busy w.insert.new.self w.index-busy-index.result there (ap (reaches s) same ∙ reached ∙ ap not w.if-not-contains.true) now w.insert.ensures.here w.insert.ensures.others w.insert.ensures.length))
      | else-not-contains w ↦
          let passed : reaches s node ≡ false = reached ∙ ap not w.if-not-contains.false in
          rw w.busy-is (written_further node (node + 1) c.args.place (reaches s) (λ _. 1) old busy (λ d le lt. let here : d ≡ node = omega arith in ap (reaches s) here ∙ passed) walked)
    ]

pub returns : goal.returns
returns c =
    let s = c.args.slot.now in
    let from = c.loop-node.from in
    let all = c.duplicate-members.ensures ∙ c.members.ensures in
    let none = ap (λ m. rising_from m from) (sym all) ∙ c.in_default.ensures in
    written_further from NODES c.args.place (reaches s) (λ _. 1) c.args.busy.now c.loop-node.busy (λ d le lt. reached_outside s d (no_member s.spec.members from none d le lt)) c.loop-node.invariant
