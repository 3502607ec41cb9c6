use Rattle.gb_types.specs.Common.{◌≡◌, ℕ, List, true, None, sym, ap, subst, ◌∙◌}
use Rattle.gb_past.specs.Story.{Known}
use Rattle.gb_node.specs.declared.tape.TapeEntry.{TapeEntry}
use Rattle.gb_record.specs.Recorded.{is_sent, IsFiled}
use Rattle.gb_record.proofs.recording.Recording.show.Goals as goal

pub invariant_of-self-clause-named : goal.invariant_of-self-clause-named
invariant_of-self-clause-named g c = ap (λ (k : Known TapeEntry). k.book) c.learn.ensures.past ∙ c.args.self.now.named

pub invariant_of-self-clause-filed : goal.invariant_of-self-clause-filed
invariant_of-self-clause-filed g c =
    subst (λ (k : Known TapeEntry). ∥ (c.args.self.now.fault ≡ None → IsFiled c.args.self.now.recorder k.log (g.W.Write.contents c.args.self.now.begun.value) (g.W.Write.contents c.args.self.now.writer)) ∥₁)
    (sym c.learn.ensures.past) c.args.self.now.filed

pub invariant_of-self-clause-among : goal.invariant_of-self-clause-among
invariant_of-self-clause-among g c =
    subst (λ (k : Known TapeEntry). (bytes : List ℕ) → is_sent bytes c.args.self.now.recent.items ≡ true → is_sent bytes k.log ≡ true) (sym c.learn.ensures.past) c.args.self.now.among
