use Rattle.gb_types.specs.Common.{◌≡◌, ◌+◌, length, fold}
use Rattle.gb_link.specs.Common.{freed}
use Rattle.gb_node.specs.NodeStep.{frame_done, without_done}
use Rattle.gb_node.proofs.taking.take_ack.Given as goal

abbrev pub invariant-loop-texts : goal.invariant-loop-texts
invariant-loop-texts l = record {
  count : l.done + length (freed l.window.window l.base l.mask) ≡ length (freed l.initial.window.window l.base l.mask);
  version : l.window.version ≡ l.initial.window.version;
  window : without_done l.base l.mask l.window.window ≡ without_done l.base l.mask l.initial.window.window;
  table : fold (frame_done l.by) l.table (freed l.window.window l.base l.mask) ≡ fold (frame_done l.by) l.initial.table (freed l.initial.window.window l.base l.mask);
}

abbrev pub decreases-loop-texts : goal.decreases-loop-texts
decreases-loop-texts l = length (freed l.window.window l.base l.mask)
