use Rattle.std.proofs.Common.{◌∙◌, sym, ap, nat_eq, arith}
use Rattle.std.proofs.lemmas.Nat.Bits.{shr_and_one}
use Rattle.gb_types.proofs.PlaceLemmas.{at_bit}
use Rattle.gb_types.proofs.node.NodeSet.contains.Goals as goal

pub returns : goal.returns
returns c =
    let bits = c.self.inside.bits in
    let node = c.args.node.number in
    rw (c.index.ensures.value, ← c.self.view_is) (ap (λ d. nat_eq d 1) (shr_and_one bits node) ∙ sym (at_bit bits node (omega arith)))
