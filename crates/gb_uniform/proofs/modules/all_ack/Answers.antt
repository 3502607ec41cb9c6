use Rattle.gb_uniform.specs.AllAckLemmas.{all_ack_broadcasts_as, all_ack_delivers_as}
use Rattle.gb_uniform.proofs.modules.all_ack.Goals as goal

pub returns-clause-broadcasts : goal.returns-clause-broadcasts
returns-clause-broadcasts c = all_ack_broadcasts_as

pub returns-clause-delivers : goal.returns-clause-delivers
returns-clause-delivers c = all_ack_delivers_as
