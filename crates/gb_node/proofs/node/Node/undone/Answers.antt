-- A frame that was not acknowledged is of the node's version, and fits a packet of it.
use Rattle.gb_types.specs.Common.{◌≡◌, ◌∙◌, ◌<◌, ap, length, get_or, rules, subst, sym, get_or_default}
use Rattle.gb_link.specs.Common.{new_window}
use Rattle.gb_node.specs.Frames.{new_frames, windows_of, IsOfVersion}
use Rattle.gb_node.proofs.VersionLemmas.{undone_fits}
use Rattle.gb_node.proofs.WindowLemmas.{window_at}
use Rattle.gb_node.proofs.node.Node.undone.Goals as goal

pub returns : goal.returns
returns c =
    let i = c.self.inside in
    let within : c.index.result < length i.windows = search rules in
    let here = get_or i.windows c.index.result c.index-self-index.result in
    let window : here.window ≡ get_or (windows_of i.windows) c.args.to.number new_window = window_at i.windows c.index.result c.index-self-index.result within ∙ ap (λ k. get_or (windows_of i.windows) k new_window) c.index.ensures.value in
    let is : IsOfVersion i.table.version here = subst (IsOfVersion i.table.version) (sym (get_or_default i.windows c.index.result _ (new_frames i.table.version) within)) (c.self.invariant.frames c.index.result) in
    rw (← c.self.view_is, ← window) (undone_fits i.table.version here c.args.number c.again.result is c.again.ensures)
