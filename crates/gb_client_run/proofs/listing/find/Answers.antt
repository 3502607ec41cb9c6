use Rattle.gb_client_run.proofs.AskedLemmas.{asked_more}
use Rattle.gb_client_run.proofs.listing.find.Goals as goal

pub returns-in-Some : goal.returns-in-Some
returns-in-Some g c = asked_more g.N.Nodes.asks _ _ _ c.pages.invariant c.in_ok-text.ensures

pub pages-preserved : goal.pages-preserved
pages-preserved g c = asked_more g.N.Nodes.asks _ _ _ c.pages.invariant c.in_ok-text.ensures
