use Rattle.gb_layer.proofs.RelayOverBebLemmas.{relay_up, relay_out, relay_log}
use Rattle.gb_layer.proofs.RelayModuleLemmas.{module_up, module_out, module_log}
use Rattle.gb_layer.proofs.modules.relays.Goals as goal

pub returns-clause-up : goal.returns-clause-up
returns-clause-up g c = relay_up g.R.Rule.rules g.met.R.Rule.broadcasts_more g.met.R.Rule.delivers_more g.met.R.Rule.broadcasts_its_own

pub returns-clause-out : goal.returns-clause-out
returns-clause-out g c = relay_out g.R.Rule.rules g.met.R.Rule.broadcasts_more g.met.R.Rule.delivers_more g.met.R.Rule.broadcasts_its_own

pub returns-clause-log : goal.returns-clause-log
returns-clause-log g c = relay_log g.R.Rule.rules g.met.R.Rule.broadcasts_more g.met.R.Rule.delivers_more g.met.R.Rule.broadcasts_its_own

pub returns-clause-module_up : goal.returns-clause-module_up
returns-clause-module_up g c = λ base alike me members. module_up g.R.Rule.rules g.met.R.Rule.broadcasts_more g.met.R.Rule.delivers_more g.met.R.Rule.broadcasts_its_own base me members alike

pub returns-clause-module_out : goal.returns-clause-module_out
returns-clause-module_out g c = λ base alike me members. module_out g.R.Rule.rules g.met.R.Rule.broadcasts_more g.met.R.Rule.delivers_more g.met.R.Rule.broadcasts_its_own base me members alike

pub returns-clause-module_log : goal.returns-clause-module_log
returns-clause-module_log g c = λ base alike me members. module_log g.R.Rule.rules g.met.R.Rule.broadcasts_more g.met.R.Rule.delivers_more g.met.R.Rule.broadcasts_its_own base me members alike
