use Rattle.gb_types.specs.Common.{[], ◌∷◌}
use Rattle.gb_client_run.proofs.AskedLemmas.{HasAsked-one}
use Rattle.gb_client_run.proofs.listing.page_text.Goals as goal

pub returns : goal.returns
returns g c = (
  record { port = c.sessions_port-port.result; body = c.deref.result.now; reply = c.in_ok-text.text.items } ∷ [],
  HasAsked-one g.N.Nodes.asks _ _ (record { port = c.sessions_port-port.result; body = c.deref.result.now; reply = c.in_ok-text.text.items }) c.in_ok-text.ensures,
)
