use Rattle.gb_duties.proofs.AgreementLemmas.{is_agreed}
use Rattle.gb_duties.proofs.laws.agreement.Goals as goal

pub returns : goal.returns
returns c = is_agreed c.delivery.ensures
