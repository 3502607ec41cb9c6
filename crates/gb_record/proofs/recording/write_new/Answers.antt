use Rattle.gb_types.specs.Common.{length, drop, ◌++◌, ap, subst, ◌∙◌}
use Rattle.std.specs.Io.KnownBytes.{Appends}
use Rattle.gb_record.proofs.WriteLemmas.{rest_is, written_by}
use Rattle.gb_record.proofs.recording.write_new.Goals as goal

pub returns-clause-ok : goal.returns-clause-ok
returns-clause-ok g c =
    let before = length c.as_slice-before.result.now in
    let log = c.args.written.now.log in
    let written = subst (Appends (g.W.Write.contents c.args.writer.now) (g.W.Write.contents c.write_text.new.writer)) c.deref.ensures.value c.in_ok-write_text.ensures.written in
    written_by c.args.recorder.now c.gather.new.recorder (g.W.Write.contents c.args.writer.now) (g.W.Write.contents c.write_text.new.writer) c.clear.new.self.items c.gather.new.lines.items log c.note.new.written.log c.args.recent.now.items c.gather.new.kept.items c.keep_packets.new.entries.items before
    c.clear.ensures.items c.in_ok-gather.ensures written (ap length c.as_slice-before.ensures.value) (c.note.ensures.log ∙ (ap (λ es. log ++ es) (rest_is before c.as_slice.result.now) ∙ ap (λ es. log ++ drop before es) c.as_slice.ensures.value)) c.keep_packets.ensures
