use Rattle.gb_types.specs.Common.{◌≡◌, ℕ, ◌<◌, length, sym, subst, arith}
use Rattle.gb_layer.specs.Common.{Names, IsNext}
use Rattle.gb_layer.proofs.KnowsLemmas.{names_more}
use Rattle.gb_broadcast_examples.proofs.placed.make_next.Goals as goal

pub take-requires-clause-there : goal.take-requires-clause-there
take-requires-clause-there g c =
    let ms = c.args.index.now.list.items in
    let ok = c.args.index.now.list.ok.0 in
    let len = c.len.ensures in
    let count : c.len.result ≡ length ms = omega (arith, ok, len) in
    let next = subst (λ (n : ℕ). Names (IsNext c.args.told.now n) c.args.call) count (c.is_next.ensures c.if-not-is_next.false) in
    names_more (IsNext c.args.told.now (length ms)) (λ p. p < length ms) (λ p h. h.1) c.args.call next

pub take-requires-clause-known : goal.take-requires-clause-known
take-requires-clause-known g c =
    let ms = c.args.index.now.list.items in
    let ok = c.args.index.now.list.ok.0 in
    let len = c.len.ensures in
    let count : c.len.result ≡ length ms = omega (arith, ok, len) in
    record {
      count = c.args.told.now;
      memory = length ms;
      knows = c.requires;
      next = subst (λ (n : ℕ). Names (IsNext c.args.told.now n) c.args.call) count (c.is_next.ensures c.if-not-is_next.false);
    }

pub returns : goal.returns
returns g c =
    let ms = c.args.index.now.list.items in
    let ok = c.args.index.now.list.ok.0 in
    let len = c.len.ensures in
    let count : c.len.result ≡ length ms = omega (arith, ok, len) in
    let next = subst (λ (n : ℕ). Names (IsNext c.args.told.now n) c.args.call) count (c.is_next.ensures c.if-not-is_next.false) in
    subst (λ (n : ℕ). g.L.Layer.knows ms c.take.new.self n (length ms)) (sym c.told_after.ensures) (c.take.ensures.known c.args.told.now (length ms) c.requires next)
