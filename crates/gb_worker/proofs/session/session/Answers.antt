use Rattle.gb_types.specs.Common.{◌≡◌, refl, subst, sym, ◌∙◌, IfOk, IfErr}
use Rattle.gb_types.specs.declared.node.NodeId.{NodeId}
use Rattle.gb_session.specs.Sessions.{IsSession, IsCutOff}
use Rattle.gb_host.specs.Common.{SeatValue}
use Rattle.gb_worker.specs.Asked.{AnswersAt, answers_at}
use Rattle.gb_worker.specs.declared.session.Desk.{Desk}
use Rattle.gb_worker.proofs.AskLemmas.{shown}
use Rattle.gb_worker.proofs.session.session.Goals as goal

pub returns : goal.returns
returns g c =
    let D : Type 0 = Desk g.row.L.Denot g.row.H.Denot g.row.G.Denot in
    let Kept : D → D → Type 0 = λ s d. (d.node ≡ s.node) × (d.seat.ghost_name ≡ s.seat.ghost_name) in
    let h =
    shown (g.R.Read.remaining c.args.reader.now) (g.R.Read.remaining c.serve.new.reader) (g.W.Write.contents c.args.writer.now) (g.W.Write.contents c.serve.new.writer)
    Kept (λ d. d.seat.now.calls) (AnswersAt g.L.Tapes.plan c.args.node) c.serve.result c.serve.ensures.ok c.serve.ensures.fault
    (λ s request reply t kept h. ((h.0 ∙ kept.0, h.1 ∙ kept.1), subst (λ (n : NodeId). AnswersAt g.L.Tapes.plan n s.seat.now.calls request reply t.seat.now.calls) kept.0 h.2)) (refl, refl) in
    record {
      ok =
          let P : SeatValue → Type 0 = λ x. IfOk c.serve.result (IsSession (answers_at g.L.Tapes.plan c.args.node) c.args.seat.now.calls x.calls (g.R.Read.remaining c.args.reader.now) (g.R.Read.remaining c.serve.new.reader) (g.W.Write.contents c.args.writer.now) (g.W.Write.contents c.serve.new.writer)) in
          subst P (sym (c.seat-1.given.1 (sym h.0.1))) h.1.0;
      fault =
          let P : SeatValue → Type 0 = λ x. IfErr c.serve.result (IsCutOff (answers_at g.L.Tapes.plan c.args.node) c.args.seat.now.calls x.calls (g.R.Read.remaining c.args.reader.now) (g.R.Read.remaining c.serve.new.reader) (g.W.Write.contents c.args.writer.now) (g.W.Write.contents c.serve.new.writer)) in
          subst P (sym (c.seat-1.given.1 (sym h.0.1))) h.1.1;
    }
