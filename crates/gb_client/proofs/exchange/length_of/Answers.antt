use Rattle.gb_types.specs.Common.{arith, ◌≡◌, take, sym, ap, ◌∙◌, w32, from_be_bytes, take-length}
use Rattle.std.proofs.lemmas.Nat.{be_bytes_4}
use Rattle.gb_client.proofs.exchange.length_of.Goals as goal

pub returns : goal.returns
returns c =
    let whole : take 4 c.args.head.now ≡ c.args.head.now = ap (λ n. take n c.args.head.now) (sym c.requires) ∙ take-length c.args.head.now in
    be_bytes_4 c.args.head.now _ c.requires (λ i. omega (arith, c.type_inv.head i)) (c.number_of.ensures ∙ ap (from_be_bytes w32) whole)
