use Rattle.gb_types.specs.Common.{◌≡◌, ◌≤◌, ◌<◌, ◌∙◌, set, get_or, length, ap, sym, arith}
use Rattle.gb_layer.specs.Common.{message_at, changed_there, changed_beyond}
use Rattle.gb_fifo.specs.Entries.{brought}
use Rattle.gb_fifo.specs.Marks.{come_up, entry_of, marked}
use Rattle.gb_fifo.proofs.MarksLemmas.{brought_there, not_brought}
use Rattle.gb_fifo.proofs.marks.bring.Goals as goal

pub returns-then-at-len-clause-entries : goal.returns-then-at-len-clause-entries
returns-then-at-len-clause-entries c =
    let ms = c.args.index.now.list.items in
    let ks = c.args.marks.now.list.items in
    let p = c.args.place in
    let m = message_at ms p in
    let d = c.index.result.now in
    let at = c.from-at.ensures in
    let len = c.len.ensures in
    let ok = c.args.marks.now.list.ok.0 in
    let test = c.if-at-len.true in
    let less : p < length ks = omega (arith, at, len, ok, test) in
    let old : d ≡ get_or ks p d = c.index.ensures ∙ ap (λ k. get_or ks k d) at in
    let is = brought_there m (get_or ks p d) ∙ ap (entry_of m) (ap come_up (sym old) ∙ sym c.come_up.ensures) in
    ap (λ k. marked ms (set ks k c.come_up.result)) at ∙ changed_there entry_of ms ks p (brought m) d c.come_up.result (not_brought m) is c.args.index.now.differ c.requires less

pub returns-else-at-len-clause-entries : goal.returns-else-at-len-clause-entries
returns-else-at-len-clause-entries c =
    let ms = c.args.index.now.list.items in
    let ks = c.args.marks.now.list.items in
    let at = c.from-at.ensures in
    let len = c.len.ensures in
    let ok = c.args.marks.now.list.ok.0 in
    let test = c.if-at-len.false in
    let past : length ks ≤ c.args.place = omega (arith, at, len, ok, test) in
    let m = message_at ms c.args.place in
    changed_beyond entry_of ms ks c.args.place (brought m) (not_brought m) c.args.index.now.differ c.requires past
