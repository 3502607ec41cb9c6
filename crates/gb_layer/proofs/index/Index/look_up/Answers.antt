use Rattle.gb_types.specs.Common.{◌<◌, length, sym, ◌∙◌, arith}
use Rattle.gb_types.proofs.SameLemmas.{same-true}
use Rattle.gb_layer.specs.PlacedCalls.{message_at}
use Rattle.gb_layer.proofs.IndexLemmas.{none_found}
use Rattle.gb_layer.proofs.index.Index.look_up.Goals as goal

pub returns-then-is_at : goal.returns-then-is_at
returns-then-is_at c =
    let i = c.args.self.now in
    let within = c.places-places.ensures.within in
    let test = c.loop-i-test.true in
    let len = c.len.ensures in
    let ok = i.list.ok.0 in
    let less : c.loop-i.i < length i.list.items = omega (arith, within, test, len, ok) in
    (less, same-true (message_at i.list.items c.loop-i.i) c.args.m (sym c.is_at.ensures ∙ c.if-is_at.true))

pub returns : goal.returns
returns c =
    let i = c.args.self.now in
    let len = c.len.ensures in
    let ok = i.list.ok.0 in
    let past = c.loop-i-test.false in
    none_found c.args.m i.list.items c.places-places.result.from c.places-places.result.to (c.places-places.ensures.stands i.list.items (omega (arith, len, ok)) i.leads)
    (λ k from to. c.loop-i.invariant.none k from (omega (arith, to, past)))
