use Rattle.gb_types.specs.Common.{◌≡◌, length, arith}
use Rattle.gb_layer.proofs.KnowsLemmas.{knows_kept}
use Rattle.gb_layer.proofs.relay.Relay.begin_notice.Goals as goal

pub returns-clause-len : goal.returns-clause-len
returns-clause-len g c =
    let ok = c.args.self.now.column.ok.0 in
    let ok' = c.call_lower.new.column.ok.0 in
    let len = c.call_lower.ensures.len in
    omega (arith, ok, ok', len)

pub returns-clause-known : goal.returns-clause-known
returns-clause-known g c = λ n w k.
    let L = g.L.Layer in
    let ms = c.args.index.now.list.items in
    let self = c.args.self.now in
    let ok = self.column.ok.0 in
    let ok' = c.call_lower.new.column.ok.0 in
    let len = c.call_lower.ensures.len in
    let same : length c.call_lower.new.column.items ≡ length self.column.items = omega (arith, ok, ok', len) in
    knows_kept L.knows ms self _ w k.knows same c.call_lower.ensures.capacity (c.call_lower.ensures.known (length self.column.items) w k.knows.lower tt)
