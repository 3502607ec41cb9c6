use Rattle.gb_types.specs.Common.{◌≡◌, ◌-◌, ◌∙◌, ℕ, List, Some, None, refl, sym, ap, option_map, slice_get_read, slice_get_past}
use Rattle.gb_cluster.specs.Common.{packet_numbered}
use Rattle.gb_cluster.specs.declared.posted.Posted.{Posted}
use Rattle.gb_cluster.proofs.CodeLemmas.{numbered_at}
use Rattle.gb_merge.proofs.follow.is_numbered.Goals as goal

some_in : (x y : List ℕ) → Some x ≡ Some y → x ≡ y
some_in x y e = cc

pub returns-in-Some : goal.returns-in-Some
returns-in-Some c =
    let found = c.in-Some.ensures.lookup in
    let there : packet_numbered c.args.packets.now c.args.number ≡ Some c.in-Some.packet.now = numbered_at c.args.packets.now c.args.number c.if-number-eq0.false ∙ slice_get_read c.args.packets.now _ (c.args.number - 1) c.in-Some.packet.now refl found.3.0 found.1 in
    let text : option_map (λ (p : Posted). p.text) (packet_numbered c.args.packets.now c.args.number) ≡ Some c.in-Some.packet.now.text = ap (option_map (λ (p : Posted). p.text)) there in
    (λ yes. text ∙ ap (λ (t : List ℕ). Some t) (c.has_bytes.ensures.0 yes), λ same. c.has_bytes.ensures.1 (some_in c.in-Some.packet.now.text c.args.bytes.now (sym text ∙ same)))

pub returns-in-None : goal.returns-in-None
returns-in-None c =
    let none : packet_numbered c.args.packets.now c.args.number ≡ None = numbered_at c.args.packets.now c.args.number c.if-number-eq0.false ∙ slice_get_past c.args.packets.now (c.args.number - 1) c.in-None.ensures.lookup.3 in
    let text : option_map (λ (p : Posted). p.text) (packet_numbered c.args.packets.now c.args.number) ≡ None = ap (option_map (λ (p : Posted). p.text)) none in
    (λ yes. absurd (cc), λ same. absurd (let e : None ≡ Some c.args.bytes.now = sym text ∙ same in cc))
