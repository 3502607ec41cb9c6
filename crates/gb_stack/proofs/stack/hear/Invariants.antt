use Rattle.gb_types.specs.Common.{◌≤◌}
use Rattle.gb_types.specs.declared.limits.TheConstants.{NODES}
use Rattle.gb_stack.specs.Stands.{HasHeard}
use Rattle.gb_stack.proofs.stack.hear.Given as goal

abbrev pub invariant-loop-i : goal.invariant-loop-i
invariant-loop-i g l =
    let L = g.L.Layer in
    let ms = l.index.list.items in
    record {
      within : l.i ≤ NODES;
      heard : HasHeard L.next l.me l.members l.noticed l.i (L.meaning ms l.fn.layer) (L.meaning ms l.layer);
      known : L.knows ms l.layer 0 0;
    }
