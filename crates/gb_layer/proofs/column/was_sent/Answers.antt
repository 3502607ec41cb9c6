use Rattle.gb_types.specs.Common.{◌∙◌, ◌&&◌, get_or, ap, sym}
use Rattle.gb_types.proofs.SameLemmas.{same_itself}
use Rattle.gb_layer.specs.Relay.{is_for}
use Rattle.gb_layer.proofs.TableLemmas.{not_sent}
use Rattle.gb_layer.specs.PlacedCalls.{message_at}
use Rattle.gb_layer.proofs.ColumnLemmas.{found_there}
use Rattle.gb_layer.proofs.column.was_sent.Goals as goal

pub returns : goal.returns
returns c =
    let ms = c.args.index.now.list.items in
    let hs = c.args.column.now in
    let p = c.args.place in
    let m = message_at ms p in
    let d = c.index-column-from.result in
    let found = found_there ms hs p (λ e. is_for m e && e.sent) d (not_sent m) c.args.index.now.differ c.requires.there c.requires.known in
    ap (λ k. (get_or hs k d).sent) c.from.ensures ∙ sym (found ∙ ap (λ b. b && (get_or hs p d).sent) (same_itself m))
