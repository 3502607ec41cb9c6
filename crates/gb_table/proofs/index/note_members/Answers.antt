use Rattle.gb_types.specs.Common.{◌≡◌, ℕ, ◌+◌, min, true, List, [], length, ap, sym, subst, ◌∙◌, arith, set, get_or_default, rising_from}
use Rattle.std.specs.FinSet as nodes
use Rattle.gb_types.specs.declared.limits.TheConstants.{NODES}
use Rattle.gb_slot.specs.Common.{waiting}
use Rattle.gb_table.specs.Busy.{IsNoted}
use Rattle.gb_table.proofs.NotedLemmas.{written_none, written_more, written_further, first_member, no_member}
use Rattle.gb_table.proofs.index.note_members.Goals as goal

pub loop-node-init : goal.loop-node-init
loop-node-init c = written_none c.args.place _ _ c.args.busy.now

pub note_at-requires : goal.note_at-requires
note_at-requires c =
    let s = c.args.slot.now in
    let busy = c.loop-node.busy in
    let from = c.loop-node.from in
    let node = c.index.result in
    let is = c.index.ensures.value in
    let size = c.loop-node.invariant.size in
    let found = ap (λ m. rising_from m from) (sym c.members.ensures) ∙ c.in-Some.ensures in
    let first = first_member s.spec.members from c.in-Some.node.number _ found in
    let member : nodes.contains s.spec.members node ≡ true = ap (nodes.contains s.spec.members) is ∙ first.member in
    let was = c.requires.words.each node c.index.ensures.bound member in
    let kept = c.loop-node.invariant.words node in
    let at = ap (λ (ws : List ℕ). length ws) (get_or_default busy node [] c.index-busy-index.result (omega (arith, c.requires.size, c.index.ensures.bound))) in
    omega arith

pub loop-node-preserved : goal.loop-node-preserved
loop-node-preserved c =
    let s = c.args.slot.now in
    let old = c.args.busy.now in
    let busy = c.loop-node.busy in
    let from = c.loop-node.from in
    let node = c.index.result in
    let is = c.index.ensures.value in
    let size = c.loop-node.invariant.size in
    let found = ap (λ m. rising_from m from) (sym c.members.ensures) ∙ c.in-Some.ensures in
    let first = first_member s.spec.members from c.in-Some.node.number _ found in
    let member : nodes.contains s.spec.members node ≡ true = ap (nodes.contains s.spec.members) is ∙ first.member in
    let here = c.note_at.ensures.here ∙ ap (min 1) (c.waiting_for.ensures ∙ ap (λ n. length (waiting s n)) (sym is)) in
    subst (λ n. IsNoted (n + 1) c.args.place s old (set busy node c.note_at.new.set)) (is ∙ sym c.index-from.ensures.value)
    (written_more node c.args.place (nodes.contains s.spec.members) (λ d. min 1 (length (waiting s d))) old busy c.note_at.new.set c.index-busy-index.result (omega (arith, c.requires.size, c.index.ensures.bound)) member
    (written_further from node c.args.place (nodes.contains s.spec.members) (λ d. min 1 (length (waiting s d))) old busy (λ d le lt. first.before d le (omega (arith, is, lt))) c.loop-node.invariant) here c.note_at.ensures.others c.note_at.ensures.words)

pub returns : goal.returns
returns c =
    let s = c.args.slot.now in
    let from = c.loop-node.from in
    let none = ap (λ m. rising_from m from) (sym c.members.ensures) ∙ c.in_default.ensures in
    written_further from NODES c.args.place (nodes.contains s.spec.members) (λ d. min 1 (length (waiting s d))) c.args.busy.now c.loop-node.busy (no_member s.spec.members from none) c.loop-node.invariant
