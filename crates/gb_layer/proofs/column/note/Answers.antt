use Rattle.gb_types.specs.Common.{◌≡◌, ◌≤◌, ◌<◌, ◌++◌, ◌∷◌, [], Bool, true, false, cond, length, ap, sym, ◌∙◌, arith, list_any}
use Rattle.gb_types.proofs.SameLemmas.{same_itself}
use Rattle.gb_layer.specs.Relay.{is_for, new_entry}
use Rattle.gb_layer.specs.PlacedCalls.{message_at}
use Rattle.gb_layer.specs.Column.{nothing_held, entry_of, zipped}
use Rattle.gb_layer.proofs.ColumnLemmas.{found_there, found_beyond, zipped_push}
use Rattle.gb_layer.proofs.column.note.Goals as goal

pub returns-then-len-from-clause-entries : goal.returns-then-len-from-clause-entries
returns-then-len-from-clause-entries c =
    let ms = c.args.index.now.list.items in
    let hs = c.args.column.now.items in
    let p = c.args.place in
    let m = message_at ms p in
    let es = zipped ms hs in
    let from = c.from.ensures in
    let len = c.len.ensures in
    let ok = c.args.column.now.ok.0 in
    let test = c.if-len-from.true in
    let there = c.requires.there in
    let count : length hs ≡ p = omega (arith, from, len, ok, test) in
    let less : length hs < length ms = omega (arith, count, there) in
    let past : length hs ≤ p = omega (arith, count) in
    let none : list_any (is_for m) es ≡ false = found_beyond ms hs p (is_for m) (λ e h. h) c.args.index.now.differ there past in
    ap (zipped ms) (c.push_reserved.ensures.items ∙ ap (λ h. hs ++ h ∷ []) c.nothing_held.ensures)
    ∙ (zipped_push ms hs nothing_held less
    ∙ (ap (λ k. es ++ entry_of (message_at ms k) nothing_held ∷ []) count
    ∙ sym (ap (λ (b : Bool). cond b es (es ++ new_entry m ∷ [])) none)))

pub returns-else-len-from-clause-entries : goal.returns-else-len-from-clause-entries
returns-else-len-from-clause-entries c =
    let ms = c.args.index.now.list.items in
    let hs = c.args.column.now.items in
    let p = c.args.place in
    let m = message_at ms p in
    let es = zipped ms hs in
    let from = c.from.ensures in
    let len = c.len.ensures in
    let ok = c.args.column.now.ok.0 in
    let test = c.if-len-from.false in
    let next = c.requires.next in
    let less : p < length hs = omega (arith, from, len, ok, test, next) in
    let some : list_any (is_for m) es ≡ true = found_there ms hs p (is_for m) nothing_held (λ e h. h) c.args.index.now.differ c.requires.there less ∙ same_itself m in
    sym (ap (λ (b : Bool). cond b es (es ++ new_entry m ∷ [])) some)
