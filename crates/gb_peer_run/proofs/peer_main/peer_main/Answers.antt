use Rattle.gb_types.specs.Common.{◌∙◌, Err, ap, map, subst, sym}
use Rattle.std.specs.Io.KnownBytes.{Appends}
use Rattle.gb_peer_run.specs.Told.{fault_line}
use Rattle.gb_peer_run.proofs.RefusedLemmas.{taken_file}
use Rattle.gb_peer_run.proofs.ServedLemmas.{served_closed}
use Rattle.gb_peer_run.proofs.peer_main.peer_main.Goals as goal

pub returns-then-tell_closed-clause-served : goal.returns-then-tell_closed-clause-served
returns-then-tell_closed-clause-served g c = λ zero.
    served_closed (map (λ word. word.now) c.args.words.now) (g.R.Read.remaining c.args.reader.now) (g.R.Read.remaining c.serve.new.reader)
    (g.W.Write.contents c.args.writer.now) (g.W.Write.contents c.serve.new.writer) (g.W.Write.contents c.tell_closed.new.writer)
    c.in-Ok.ensures.served (c.tell_closed.ensures c.if-tell_closed.true)

pub returns-then-tell_fault-clause-taken : goal.returns-then-tell_fault-clause-taken
returns-then-tell_fault-clause-taken g c = λ taken two.
    let all = c.in-Err.ensures.refused (sym c.fault_status.ensures ∙ two) in
    let named = taken_file (map (λ word. word.now) c.args.words.now) c.in-Err.fault all.0 (λ is. c.in-Err.ensures.taken taken (ap Err is)) in (
      c.in-Err.fault,
      named.0,
      named.1,
      named.2,
      subst (λ w. Appends (g.W.Write.contents w) (g.W.Write.contents c.tell_fault.new.writer) (fault_line c.in-Err.fault)) all.2 (c.tell_fault.ensures c.if-tell_fault.true),
    )
