use Rattle.gb_types.specs.Common.{rules, ◌≡◌, ◌∙◌, ℕ, length, ap, sym, subst, arith}
use Rattle.gb_layer.specs.Pending.{is_pending}
use Rattle.gb_layer.specs.Column.{zipped, zipped_nothing}
use Rattle.gb_layer.proofs.SettleLemmas.{none_there}
use Rattle.gb_layer.proofs.relay.Relay.new.Goals as goal

pub returns-clause-meaning : goal.returns-clause-meaning
returns-clause-meaning g c = λ ms. search (rules, zipped_nothing)

pub returns-clause-fresh : goal.returns-clause-fresh
returns-clause-fresh g c = λ ms low. record {
  lower = low;
  noticed = c.new.ensures;
  entries = ap (zipped ms) c.new-2.ensures.items ∙ zipped_nothing ms;
}

pub returns-clause-known : goal.returns-clause-known
returns-clause-known g c = λ ms low.
    let L = g.L.Layer in
    let none = c.new-2.ensures.items in
    let len : length c.new-2.result.items ≡ 0 = ap length none in
    let entries : length (zipped ms c.new-2.result.items) ≡ 0 = ap length (ap (zipped ms) none ∙ zipped_nothing ms) in
    let due = is_pending g.R.Rule.rules (L.me (L.meaning ms c.args.lower)) c.args.members c.new.result in
    record {
      count = len;
      knows = record {
        within = omega (arith, len);
        few = omega (arith, len);
        memory = omega arith;
        lower = subst (λ (n : ℕ). L.knows ms c.args.lower n 0) (sym len) low;
      };
      quiet = none_there due (zipped ms c.new-2.result.items) entries;
    }
