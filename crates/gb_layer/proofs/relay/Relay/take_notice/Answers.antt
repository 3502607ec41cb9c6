use Rattle.gb_types.specs.Common.{◌≡◌, ◌++◌, ◌∙◌, Bool, false, cond, sym, subst}
use Rattle.gb_layer.specs.declared.call.Call.TheVariants.{Notice}
use Rattle.gb_layer.specs.Machine.{nothing}
use Rattle.gb_layer.specs.Relay.{is_repeat, begun, begun_sends, relayed, relayed_sends, given_ups}
use Rattle.gb_layer.specs.Due.{NothingIsDue}
use Rattle.gb_layer.specs.RelayColumn.{state_of}
use Rattle.gb_layer.proofs.SettleLemmas.{zipped_in_order, settled_quiet}
use Rattle.gb_layer.proofs.relay.Relay.take_notice.Goals as goal

pub begin_notice-requires-clause-room : goal.begin_notice-requires-clause-room
begin_notice-requires-clause-room g c =
    let L = g.L.Layer in
    let R = g.R.Rule.rules in
    let ms = c.args.index.now.list.items in
    let r = state_of L.meaning ms c.args.self.now in
    let call = Notice c.args.who in
    let s = g.O.Sink.state ms c.args.out.now in
    let new : is_repeat r call ≡ false = sym c.contains.ensures ∙ c.if-not-contains.true in
    let first = begun_sends L.next L.gives L.me r call in
    let then = begun L.next L.gives L.me r call in
    let sends = relayed_sends L.next L.gives L.me R then in
    let ups = given_ups L.me R (relayed L.next L.gives L.me R then) in
    g.met.O.Sink.splits.first_sends s first (record { sends = sends; ups = ups })
    (subst (λ (b : Bool). g.O.Sink.takes s (cond b nothing (record { sends = first ++ sends; ups = ups }))) new c.requires.room)

pub settle_all-requires-clause-known : goal.settle_all-requires-clause-known
settle_all-requires-clause-known g c =
    let k = c.requires.known in
    (k.memory, c.begin_notice.ensures.known k.count k.memory k.knows)

pub returns-then-not-contains-clause-known : goal.returns-then-not-contains-clause-known
returns-then-not-contains-clause-known g c = λ n w k.
    let L = g.L.Layer in
    let ms = c.args.index.now.list.items in
    let then = c.begin_notice.new.self in
    let order = zipped_in_order ms then.column.items c.args.index.now.differ in
    record {
      count = c.settle_all.ensures.len ∙ (c.begin_notice.ensures.len ∙ k.count);
      knows = c.settle_all.ensures.known w (c.begin_notice.ensures.known n w k);
      quiet = subst (NothingIsDue L.me g.R.Rule.rules) (sym c.settle_all.ensures.state) (settled_quiet L.next L.gives L.me g.R.Rule.rules g.met.L.Layer.me_stays g.met.L.Focused.brings_own ms (state_of L.meaning ms then) order);
    }
