use Rattle.gb_types.specs.Common.{sym, ap, ◌∙◌, ◌++◌, ◌∷◌, [], is_some, if◌then◌else◌}
use Rattle.std.specs.FinSet as set
use Rattle.gb_slot.specs.Arrivals.{with_message, with_node}
use Rattle.gb_slot.proofs.ArrivalLemmas.{with_node_new}
use Rattle.gb_slot.proofs.store.Store.take_in.Goals as goal

pub returns-in-None-clause-arrivals : goal.returns-in-None-clause-arrivals
returns-in-None-clause-arrivals c =
    let before = c.args.self.now.arrivals in
    let m = c.args.m in
    let new = sym c.requires.arrived ∙ ap is_some c.in-None.is in
    c.add.ensures.arrivals
    ∙ ap (λ s. before ++ record { m = m; from = s } ∷ []) (c.insert.ensures ∙ ap (λ e. set.insert e c.args.from.number) c.new-nodes.ensures)
    ∙ sym (ap (λ b. with_node c.args.from m (if b then before else with_message before m)) new ∙ with_node_new c.args.from m before new)
