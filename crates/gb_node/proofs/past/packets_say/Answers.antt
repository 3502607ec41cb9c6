use Rattle.gb_node.proofs.EventLemmas.{starved_says}
use Rattle.gb_node.proofs.SentLemmas.{sends, packet_says, reached_another, batch_another, another_in, read_is}
use Rattle.gb_node.proofs.past.packets_say.Goals as goal

pub returns-clause-senders : goal.returns-clause-senders
returns-clause-senders c = sends

pub returns-clause-packets : goal.returns-clause-packets
returns-clause-packets c = packet_says

pub returns-clause-reached : goal.returns-clause-reached
returns-clause-reached c = reached_another

pub returns-clause-batches : goal.returns-clause-batches
returns-clause-batches c = batch_another

pub returns-clause-inside : goal.returns-clause-inside
returns-clause-inside c = another_in

pub returns-clause-read : goal.returns-clause-read
returns-clause-read c = read_is c.what_is_written_is_read.ensures

pub returns-clause-starved : goal.returns-clause-starved
returns-clause-starved c = starved_says
