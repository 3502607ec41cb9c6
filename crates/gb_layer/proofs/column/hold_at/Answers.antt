use Rattle.gb_types.specs.Common.{◌≡◌, ◌≤◌, ◌<◌, ◌∙◌, set, get_or, cond, length, ap, sym, arith}
use Rattle.gb_types.proofs.SameLemmas.{same_itself}
use Rattle.gb_layer.specs.Relay.{held, held_entry}
use Rattle.gb_layer.proofs.TableLemmas.{not_held}
use Rattle.gb_layer.specs.PlacedCalls.{message_at}
use Rattle.gb_layer.specs.Column.{also_held, entry_of, zipped}
use Rattle.gb_layer.proofs.ColumnLemmas.{changed_there, changed_beyond}
use Rattle.gb_layer.proofs.column.hold_at.Goals as goal

pub returns-then-at-len-clause-entries : goal.returns-then-at-len-clause-entries
returns-then-at-len-clause-entries c =
    let ms = c.args.index.now.list.items in
    let hs = c.args.column.now.items in
    let p = c.args.place in
    let me = c.args.me in
    let via = c.args.via in
    let m = message_at ms p in
    let d = c.index_mut.result.now in
    let at = c.from-at.ensures in
    let len = c.len.ensures in
    let ok = c.args.column.now.ok.0 in
    let test = c.if-at-len.true in
    let less : p < length hs = omega (arith, at, len, ok, test) in
    let old : d ≡ get_or hs p d = c.index_mut.ensures.value ∙ ap (λ k. get_or hs k d) at in
    let e = entry_of m (get_or hs p d) in
    let is = ap (λ b. cond b (held_entry me via e) e) (same_itself m) ∙ ap (entry_of m) (ap (also_held me via) (sym old) ∙ sym c.hold_one.ensures) in
    ap (λ k. zipped ms (set hs k c.hold_one.new.one)) at ∙ changed_there ms hs p (held me via m) d c.hold_one.new.one (not_held me via m) is c.args.index.now.differ c.requires less

pub returns-else-at-len-clause-entries : goal.returns-else-at-len-clause-entries
returns-else-at-len-clause-entries c =
    let ms = c.args.index.now.list.items in
    let hs = c.args.column.now.items in
    let at = c.from-at.ensures in
    let len = c.len.ensures in
    let ok = c.args.column.now.ok.0 in
    let test = c.if-at-len.false in
    let past : length hs ≤ c.args.place = omega (arith, at, len, ok, test) in
    let m = message_at ms c.args.place in
    changed_beyond ms hs c.args.place (held c.args.me c.args.via m) (not_held c.args.me c.args.via m) c.args.index.now.differ c.requires past
