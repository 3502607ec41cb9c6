use Rattle.gb_types.specs.Common.{◌++◌, take, take_rest}
use Rattle.gb_session.proofs.{RunLemmas.Appends-join, ServeLemmas.parts_more}
use Rattle.gb_mail.proofs.client.write_some.Goals as goal

pub writes-preserved : goal.writes-preserved
writes-preserved g c = record {
  part = c.writes.invariant.part ++ take c.in_ok-count.count c.writes.rest.now;
  parts = parts_more c.args.bytes.now c.writes.invariant.part c.writes.rest.now _ c.in_ok-count.count c.writes.invariant.parts (take_rest c.writes.rest.now c.in_ok-count.count);
  written = Appends-join (g.W.Write.contents c.args.writer.now) (g.W.Write.contents c.writes.writer) (g.W.Write.contents c.write_once.new.writer) c.writes.invariant.part (take c.in_ok-count.count c.writes.rest.now)
      c.writes.invariant.written c.in_ok-count.ensures.bytes;
}
