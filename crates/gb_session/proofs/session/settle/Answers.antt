use Rattle.gb_types.specs.Common.{[], ◌∷◌, refl}
use Rattle.gb_session.proofs.SettleLemmas.{settled_now}
use Rattle.gb_session.proofs.session.settle.Goals as goal

pub returns-in-Now : goal.returns-in-Now
returns-in-Now g c = (
  c.in-Now.request ∷ [],
  c.answer.result ∷ [],
  (c.answer.new.self, c.answer.ensures, refl),
  settled_now c.args.is_late c.args.ask c.in-Now.request c.answer.result c.in-Now.is,
)
