use Rattle.gb_types.specs.Common.{◌≡◌, ◌≤◌, ◌<◌, ◌++◌, ◌∷◌, [], Bool, true, false, cond, length, ap, sym, ◌∙◌, arith, list_any}
use Rattle.gb_types.proofs.SameLemmas.{same_itself}
use Rattle.gb_layer.specs.Common.{message_at, found_there, found_beyond, paired_push}
use Rattle.gb_fifo.specs.Entries.{is_for, blank}
use Rattle.gb_fifo.specs.declared.marks.Mark.TheVariants.{Missing}
use Rattle.gb_fifo.specs.Marks.{entry_of, marked}
use Rattle.gb_fifo.proofs.marks.note.Goals as goal

pub returns-then-len-from-clause-entries : goal.returns-then-len-from-clause-entries
returns-then-len-from-clause-entries c =
    let ms = c.args.index.now.list.items in
    let ks = c.args.marks.now.list.items in
    let p = c.args.place in
    let m = message_at ms p in
    let es = marked ms ks in
    let from = c.from.ensures in
    let len = c.len.ensures in
    let ok = c.args.marks.now.list.ok.0 in
    let test = c.if-len-from.true in
    let there = c.requires.there in
    let count : length ks ≡ p = omega (arith, from, len, ok, test) in
    let less : length ks < length ms = omega (arith, count, there) in
    let past : length ks ≤ p = omega (arith, count) in
    let none : list_any (is_for m) es ≡ false = found_beyond entry_of ms ks p (is_for m) (λ x k h. h) c.args.index.now.differ there past in
    ap (marked ms) c.push_reserved.ensures.items
    ∙ (paired_push entry_of ms ks Missing less
    ∙ (ap (λ k. es ++ entry_of (message_at ms k) Missing ∷ []) count
    ∙ sym (ap (λ (b : Bool). cond b es (es ++ blank m ∷ [])) none)))

pub returns-else-len-from-clause-entries : goal.returns-else-len-from-clause-entries
returns-else-len-from-clause-entries c =
    let ms = c.args.index.now.list.items in
    let ks = c.args.marks.now.list.items in
    let p = c.args.place in
    let m = message_at ms p in
    let es = marked ms ks in
    let from = c.from.ensures in
    let len = c.len.ensures in
    let ok = c.args.marks.now.list.ok.0 in
    let test = c.if-len-from.false in
    let next = c.requires.next in
    let less : p < length ks = omega (arith, from, len, ok, test, next) in
    let some : list_any (is_for m) es ≡ true = found_there entry_of ms ks p (is_for m) Missing (λ x k h. h) c.args.index.now.differ c.requires.there less ∙ same_itself m in
    sym (ap (λ (b : Bool). cond b es (es ++ blank m ∷ [])) some)
