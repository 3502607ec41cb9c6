use Rattle.gb_types.specs.Common.{◌≡◌, ℕ, ◌<◌, List, [], length, map, Some, Bor, sym, ◌∙◌, arith, position, length-map}
use Rattle.std.specs.Str.{bytes_eq}
use Rattle.std.proofs.lemmas.List.Quantifiers.{position-Some}
use Rattle.gb_merge.proofs.mail.Mail.number.Goals as goal

pub overflow_add-result : goal.overflow_add-result
overflow_add-result c =
    let now : Bor (List ℕ) → List ℕ = λ p. p.now in
    let packets = c.self.inside.packets.items in
    let at : position (bytes_eq c.args.bytes.now) (map now packets) ≡ Some c.in-Some.i.now = sym (c.self.invariant c.args.bytes.now) ∙ sym c.in-Some.ensures.value in
    let within : c.in-Some.i.now < length packets = omega (arith, (position-Some (bytes_eq c.args.bytes.now) (map now packets) c.in-Some.i.now [] at).0, length-map packets now) in
    let small = c.self.inside.packets.small in
    let ok = c.self.inside.packets.ok in
    omega arith
