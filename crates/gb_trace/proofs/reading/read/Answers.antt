use Rattle.gb_types.specs.Common.{◌∙◌, ap, sym}
use Rattle.gb_node.proofs.PacketLemmas.{packet_in, read_in, read_one}
use Rattle.gb_trace.proofs.reading.read.Goals as goal

pub returns-in-Ok : goal.returns-in-Ok
returns-in-Ok c = read_one c.args.key.now c.args.bytes.now c.in-Ok.packet (sym c.in-Ok.ensures.exact)

pub returns-in-Err : goal.returns-in-Err
returns-in-Err c = read_in c.args.key.now c.args.bytes.now ∙ ap packet_in (sym c.in-Err.ensures.exact)
