use Rattle.gb_types.specs.Common.{◌≡◌, ◌∙◌, Bool, cond, get_or, ap, sym, None, Some}
use Rattle.gb_layer.specs.Relay.{due_message, due_to_relay}
use Rattle.gb_layer.specs.PlacedCalls.{message_at}
use Rattle.gb_layer.specs.Column.{entry_of}
use Rattle.gb_layer.specs.RelayColumn.{state_of}
use Rattle.gb_layer.proofs.ColumnLemmas.{zipped_get}
use Rattle.gb_layer.proofs.relay.Relay.is_due_at.Goals as goal

pub returns : goal.returns
returns g c =
    let L = g.L.Layer in
    let R = g.R.Rule.rules in
    let ms = c.args.index.now.list.items in
    let self = c.args.self.now in
    let hs = self.column.items in
    let i = c.args.i in
    let m = message_at ms i in
    let d = c.index.result.now in
    let r = state_of L.meaning ms self in
    let test : c.is_due.result ≡ due_to_relay R (L.me (L.meaning ms self.lower)) self.noticed (entry_of m (get_or hs i d)) =
    c.is_due.ensures ∙ (λ j. due_to_relay R (c.me-me.ensures ms j) self.noticed (entry_of (c.message-m.ensures j) (c.index.ensures j))) in
    ap (due_message L.next L.gives L.me R r) (zipped_get ms hs i d c.requires.known c.requires.within) ∙ ap (λ (b : Bool). cond b (Some m) None) (sym test)
