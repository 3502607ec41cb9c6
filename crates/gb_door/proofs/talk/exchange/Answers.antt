use Rattle.gb_types.specs.Common.{List, ℕ, subst}
use Rattle.gb_door.proofs.talk.exchange.Goals as goal

pub returns-in-Ok-tell-clause-whole : goal.returns-in-Ok-tell-clause-whole
returns-in-Ok-tell-clause-whole g c =
    let asked = subst (λ (t : List ℕ). g.D.Desk.asks c.args.desk.now t c.in-Ok-ask.reply.items c.ask.new.self) c.deref.ensures.value c.in-Ok-ask.ensures in
    let told = subst (λ (t : List ℕ). g.V.Visitor.tells c.next.new.self t c.tell.new.self) c.deref-2.ensures.value c.in-Ok-tell.ensures in
    (record { text = c.in-Ok.text.items; reply = c.in-Ok-ask.reply.items }, (c.next.new.self, c.in-Ok.ensures.hears, asked, told))
