use Rattle.gb_types.specs.Common.{◌≡◌, ◌<◌, ◌∙◌, set, get_or, cond, length, ap, sym, arith}
use Rattle.gb_types.proofs.SameLemmas.{same_itself}
use Rattle.gb_layer.specs.Relay.{marked_sent, sent_entry}
use Rattle.gb_layer.proofs.TableLemmas.{not_marked}
use Rattle.gb_layer.specs.PlacedCalls.{message_at}
use Rattle.gb_layer.specs.Column.{now_sent, entry_of, zipped}
use Rattle.gb_layer.proofs.ColumnLemmas.{changed_there}
use Rattle.gb_layer.proofs.column.mark_sent.Goals as goal

pub returns-clause-entries : goal.returns-clause-entries
returns-clause-entries c =
    let ms = c.args.index.now.list.items in
    let hs = c.args.column.now.items in
    let p = c.args.place in
    let m = message_at ms p in
    let d = c.index_mut.result.now in
    let at = c.from.ensures in
    let ok = c.args.column.now.ok.0 in
    let known = c.requires.known in
    let less : p < length hs = omega (arith, ok, known) in
    let old : d ≡ get_or hs p d = c.index_mut.ensures.value ∙ ap (λ k. get_or hs k d) at in
    let e = entry_of m (get_or hs p d) in
    let is = ap (λ b. cond b (sent_entry e) e) (same_itself m) ∙ ap (entry_of m) (ap now_sent (sym old) ∙ sym c.mark_one.ensures) in
    ap (λ k. zipped ms (set hs k c.mark_one.new.one)) at ∙ changed_there ms hs p (marked_sent m) d c.mark_one.new.one (not_marked m) is c.args.index.now.differ c.requires.there less
