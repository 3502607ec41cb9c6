use Rattle.gb_types.specs.Common.{arith, ◌≡◌, ℕ, List, [], drop, sym, subst, drop_all}
use Rattle.gb_host.specs.Calls.{calls_of, calls_at, numbered}
use Rattle.gb_host.specs.Closing.{list_at}
use Rattle.gb_host.specs.Walk.{left_of, IsWalked}
use Rattle.gb_host.specs.declared.compare.Cursor.{Cursor}
use Rattle.gb_host.proofs.CallLemmas.{walked_all, none_map}
use Rattle.gb_host.proofs.compare.differing_in.Goals as goal

pub returns-clause-none : goal.returns-clause-none
returns-clause-none c =
    let cursors : List Cursor = c.as_slice.result.now in
    let left = drop c.loop-noted.noted-index c.args.tape.now in
    let ended : left ≡ [] = drop_all c.loop-noted.noted-index c.args.tape.now (omega (arith, c.loop-noted-test.false)) in
    let walked : IsWalked c.args.node c.args.tape.now c.args.lists.now left cursors = subst (λ (cs : List Cursor). IsWalked c.args.node c.args.tape.now c.args.lists.now left cs) (sym c.as_slice.ensures.value) c.loop-noted.invariant.walked in
    none_map c.left_over.result ((s : ℕ) → left_of c.args.node c.args.lists.now cursors s ≡ []) ((s : ℕ) → calls_of s c.args.tape.now ≡ numbered 0 (calls_at c.args.node (list_at c.args.lists.now s)))
    (walked_all c.args.node c.args.tape.now c.args.lists.now left cursors walked ended) c.left_over.ensures.none
