use Rattle.gb_types.specs.Common.{ℕ, ◌∙◌, length, ap, sym, subst, arith}
use Rattle.gb_layer.specs.Relay.{begun, begun_sends, relayed, relayed_sends, given_ups}
use Rattle.gb_layer.specs.declared.placed_call.PlacedCall.TheVariants.{Came}
use Rattle.gb_layer.specs.Due.{NothingIsDue, OnlyDueAt}
use Rattle.gb_layer.specs.PlacedCalls.{told, reached}
use Rattle.gb_layer.specs.RelayColumn.{state_of}
use Rattle.gb_layer.proofs.KnowsLemmas.{reached_has}
use Rattle.gb_layer.proofs.SettleLemmas.{zipped_in_order, settled_quiet}
use Rattle.gb_layer.proofs.relay.Relay.take_came.Goals as goal

pub begin_came-requires-clause-room : goal.begin_came-requires-clause-room
begin_came-requires-clause-room g c =
    let L = g.L.Layer in
    let R = g.R.Rule.rules in
    let ms = c.args.index.now.list.items in
    let r = state_of L.meaning ms c.args.self.now in
    let call = told ms (Came c.args.from c.args.place) in
    let s = g.O.Sink.state ms c.args.out.now in
    let then = begun L.next L.gives L.me r call in
    g.met.O.Sink.splits.first_sends s (begun_sends L.next L.gives L.me r call) (record { sends = relayed_sends L.next L.gives L.me R then; ups = given_ups L.me R (relayed L.next L.gives L.me R then) }) c.requires.room

pub settle-requires-clause-within : goal.settle-requires-clause-within
settle-requires-clause-within g c =
    let k = c.requires.known in
    let count = k.knows.count in
    let next = k.next.0 in
    let len = c.begin_came.ensures.len in
    let has = reached_has (length c.args.self.now.column.items) c.args.place (omega (arith, count, next)) in
    let at = c.from.ensures in
    omega (arith, has, len, at)

pub settle-requires-clause-known : goal.settle-requires-clause-known
settle-requires-clause-known g c =
    let k = c.requires.known in
    (k.memory, c.begin_came.ensures.known k.count k.memory k.knows k.next)

pub settle-requires-clause-alone : goal.settle-requires-clause-alone
settle-requires-clause-alone g c =
    let k = c.requires.known in
    let L = g.L.Layer in
    let then = state_of L.meaning c.args.index.now.list.items c.begin_came.new.self in
    subst (λ (i : ℕ). OnlyDueAt L.me g.R.Rule.rules i then) (sym c.from.ensures) (c.begin_came.ensures.due k.count k.memory k.knows)

pub returns-clause-known : goal.returns-clause-known
returns-clause-known g c = λ n w k next.
    let L = g.L.Layer in
    let ms = c.args.index.now.list.items in
    let then = c.begin_came.new.self in
    let order = zipped_in_order ms then.column.items c.args.index.now.differ in
    record {
      count = c.settle.ensures.len ∙ (c.begin_came.ensures.len ∙ ap (λ v. reached v c.args.place) k.count);
      knows = c.settle.ensures.known w (c.begin_came.ensures.known n w k next);
      quiet = subst (NothingIsDue L.me g.R.Rule.rules) (sym c.settle.ensures.state) (settled_quiet L.next L.gives L.me g.R.Rule.rules g.met.L.Layer.me_stays g.met.L.Focused.brings_own ms (state_of L.meaning ms then) order);
    }
