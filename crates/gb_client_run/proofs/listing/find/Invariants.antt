use Rattle.gb_types.specs.Common.{List}
use Rattle.gb_client_run.specs.Asked.{Exchange, HasAsked}
use Rattle.gb_client_run.proofs.listing.find.Given as goal

-- messages were asked and answered
abbrev pub invariant-pages : goal.invariant-pages
invariant-pages g l = (told : List Exchange) × HasAsked g.N.Nodes.asks l.initial.nodes told l.nodes
