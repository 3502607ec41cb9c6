use Rattle.gb_types.specs.Common.{take, subst}
use Rattle.std.specs.Io.KnownBytes.{Appends}
use Rattle.gb_session.proofs.ServeLemmas.{keeps_none, keeps_join}
use Rattle.gb_session.proofs.serve.write_once.Goals as goal

pub returns-in-Ok-eq0-clause-kept : goal.returns-in-Ok-eq0-clause-kept
returns-in-Ok-eq0-clause-kept g c =
    keeps_join (g.W.Write.contents c.args.writer.now) (g.W.Write.contents c.tries.writer) (g.W.Write.contents c.write.new.self) c.tries.invariant
    (keeps_none (g.W.Write.contents c.tries.writer) (g.W.Write.contents c.write.new.self)
    (subst (λ n. Appends (g.W.Write.contents c.tries.writer) (g.W.Write.contents c.write.new.self) (take n c.args.bytes.now)) c.in-Ok-eq0.field-0-test c.in-Ok-eq0.ensures.bytes))
