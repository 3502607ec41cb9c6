use Rattle.gb_types.specs.Common.{◌≡◌, ℕ, List, sym, ap, ◌∙◌, option_copied, eqb-true}
use Rattle.gb_cap.proofs.KeptLemmas.{kept_found, kept_after}
use Rattle.gb_cap.specs.Token.{token_of}
use Rattle.gb_schedule.specs.Keys.{tenant_key}
use Rattle.gb_schedule.proofs.keys.Keys.token.Goals as goal

pub returns-in-Some : goal.returns-in-Some
returns-in-Some c =
    c.token.ensures
    ∙ ap (λ key. token_of key c.args.need) (kept_found (λ (t : ℕ) (k : List ℕ). k ≡ tenant_key t) _ c.args.tenant c.self.inside.tenants.entries c.in-Some.key.now (λ k h. eqb-true c.args.tenant k h) c.self.invariant.1 (sym c.get.ensures.value ∙ ap option_copied c.in-Some.is))

pub invariant_of-self : goal.invariant_of-self
invariant_of-self c = (
  c.self.invariant.0,
  kept_after (λ (t : ℕ) (k : List ℕ). k ≡ tenant_key t) c.insert.result _ c.args.tenant c.self.inside.tenants.entries c.insert.new.self.entries c.new-key.result c.insert.ensures.entries c.insert.ensures.err (λ k h. eqb-true c.args.tenant k h) c.self.invariant.1 (c.new-key.ensures ∙ c.tenant_key.ensures),
  c.self.invariant.2,
  c.self.invariant.3,
)
