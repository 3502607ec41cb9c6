use Rattle.gb_types.specs.Common.{◌≡◌, ℕ, length, subst, arith}
use Rattle.gb_broadcast_examples.proofs.layer_examples.last_effects.Goals as goal

pub loop-call-init : goal.loop-call-init
loop-call-init g c =
    let ms = c.args.index.now.list.items in
    let ok = c.args.index.now.list.ok.0 in
    let len = c.len.ensures in
    let count : c.len.result ≡ length ms = omega (arith, ok, len) in
    subst (λ (n : ℕ). g.L.Layer.knows ms c.whole.new.self 0 n) count (c.in_ok-whole.ensures.memory ms 0 0 c.requires (omega arith))
