use Rattle.gb_types.specs.Common.{◌≡◌, ◌∙◌, sym, ap, true, false, Bool, eq-eqb, nat_eq, nat_lt, ◌&&◌, Ok, ne_eqb}
use Rattle.gb_frame.specs.Common.{Content}
use Rattle.gb_types.specs.declared.plan.Plan.{Plan}
use Rattle.gb_merge.specs.Interleaving.{is_good}
use Rattle.gb_merge.proofs.CodeLemmas.{good_reads}
use Rattle.gb_merge.proofs.reader.Reader.is_good.Goals as goal

pub returns-in_default : goal.returns-in_default
returns-in_default c =
    good_reads c.self.inside.plan c.args.a c.self.inside.key c.args.bytes.now _ c.self.invariant c.in_default.ensures.exact
    ∙ ap (λ (p : Plan). is_good p c.args.a c.args.bytes.now) c.self.view_is

pub returns-then-head-a : goal.returns-then-head-a
returns-then-head-a c =
    let good = good_reads c.self.inside.plan c.args.a c.self.inside.key c.args.bytes.now (Ok c.in-Ok.packet) c.self.invariant c.in-Ok.ensures.exact in
    let from = ap (λ (x : Content). x.from) c.head-head.ensures in
    let to = ap (λ (x : Content). x.to) c.head-head.ensures in
    let on : nat_eq c.in-Ok.packet.to c.args.a.number ≡ true = ap (λ n. nat_eq n c.args.a.number) (sym to) ∙ eq-eqb c.head-head.result.to.number c.args.a.number c.if-head-a.true in
    ap (λ n. nat_lt n c.self.inside.plan.nodes) from ∙ (ap (λ (b : Bool). b && nat_lt c.in-Ok.packet.from c.self.inside.plan.nodes) (sym on) ∙ (good ∙ ap (λ (p : Plan). is_good p c.args.a c.args.bytes.now) c.self.view_is))

pub returns-else-head-a : goal.returns-else-head-a
returns-else-head-a c =
    let good = good_reads c.self.inside.plan c.args.a c.self.inside.key c.args.bytes.now (Ok c.in-Ok.packet) c.self.invariant c.in-Ok.ensures.exact in
    let to = ap (λ (x : Content). x.to) c.head-head.ensures in
    let here : nat_eq c.head-head.result.to.number c.args.a.number ≡ false = ne_eqb c.head-head.result.to.number c.args.a.number c.if-head-a.false in
    let off : nat_eq c.in-Ok.packet.to c.args.a.number ≡ false = ap (λ n. nat_eq n c.args.a.number) (sym to) ∙ here in
    here ∙ (ap (λ (b : Bool). b && nat_lt c.in-Ok.packet.from c.self.inside.plan.nodes) (sym off) ∙ (good ∙ ap (λ (p : Plan). is_good p c.args.a c.args.bytes.now) c.self.view_is))
