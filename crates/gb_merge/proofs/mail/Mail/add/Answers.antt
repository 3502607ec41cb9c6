use Rattle.gb_types.specs.Common.{arith, ◌≡◌, ◌∷◌, ◌++◌, [], ℕ, List, length, map, Bor, ◌∙◌, ap, map-append, length-map}
use Rattle.gb_merge.proofs.MailLemmas.{noted}
use Rattle.gb_merge.proofs.mail.Mail.add.Goals as goal

pub invariant_of-self-in-Ok : goal.invariant_of-self-in-Ok
invariant_of-self-in-Ok c = λ q.
    let now : Bor (List ℕ) → List ℕ = λ p. p.now in
    let old = c.self.inside.packets.items in
    noted (map now old) (map now c.push_reserved.new.self.items) c.args.bytes.now q c.len.result _ _ (c.self.invariant q) (c.in-Ok.ensures.ok q) (let e : length c.reserve.new.self.items ≡ length old = ap length c.reserve.ensures.items in simp length-map (omega arith)) (ap (map now) (c.push_reserved.ensures.items ∙ ap (λ (ps : List (Bor (List ℕ))). ps ++ c.args.bytes ∷ []) c.reserve.ensures.items) ∙ map-append now old (c.args.bytes ∷ []))
