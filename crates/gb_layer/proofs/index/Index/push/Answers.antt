use Rattle.gb_types.specs.Common.{◌≡◌, ◌≤◌, ◌<◌, max, sym, ◌+◌, ◌++◌, ◌∷◌, [], length, ap, ◌∙◌, arith, length_push}
use Rattle.gb_types.specs.declared.limits.TheConstants.{NODES}
use Rattle.gb_layer.specs.Table.{leads}
use Rattle.gb_layer.specs.PlacedCalls.{all_differ}
use Rattle.gb_layer.specs.Last.{last_of}
use Rattle.gb_layer.proofs.IndexLemmas.{differ_push}
use Rattle.gb_layer.proofs.LastLemmas.{last_more}
use Rattle.gb_layer.proofs.index.Index.push.Goals as goal

pub invariant_of-self : goal.invariant_of-self
invariant_of-self c =
    let i = c.args.self.now in
    let ms = i.list.items in
    let m = c.args.m in
    let items : c.push_reserved.new.self.items ≡ ms ++ m ∷ [] = c.push_reserved.ensures.items in
    let len : length c.push_reserved.new.self.items ≡ length ms + 1 = ap length items ∙ length_push ms m in
    let place = c.len-place.ensures in
    let ok = i.list.ok.0 in
    let less = c.requires.few in
    let new = c.note.new.self in
    let count : length i.last ≡ NODES = omega arith in
    let bound = c.index-node.ensures.bound in
    let within : c.index-node.result < length i.last = omega (arith, bound, count) in
    let last : c.max-last.result ≡ max (last_of m.origin.number ms) m.seq = c.max-last.ensures ∙ ap (λ n. max n m.seq) c.last-known.ensures in
    record {
      few = (let h : length c.push_reserved.new.self.items ≤ 65536 = omega (arith, len, place, ok, less) in h);
      differ = ap all_differ items ∙ differ_push ms m c.requires.new i.differ;
      leads = ap (leads new.width new.told.items 0) items ∙ c.note.ensures ms (omega (arith, place, ok)) c.requires.new i.leads;
      greatest = λ o lt. last_more i.last c.index-node.result c.max-last.result o ms m within c.index-node.ensures.value last (i.greatest o lt) ∙ ap (last_of o) (sym items);
    }
