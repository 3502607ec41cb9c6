use Rattle.gb_uniform.specs.MajorityAckLemmas.{majority_ack_broadcasts_as, majority_ack_delivers_as}
use Rattle.gb_uniform.proofs.modules.majority_ack.Goals as goal

pub returns-clause-broadcasts : goal.returns-clause-broadcasts
returns-clause-broadcasts c = majority_ack_broadcasts_as

pub returns-clause-delivers : goal.returns-clause-delivers
returns-clause-delivers c = majority_ack_delivers_as
