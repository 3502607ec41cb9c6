use Rattle.gb_types.specs.Common.{sym, ◌∙◌}
use Rattle.gb_merge.proofs.FedLemmas.{empty_kept}
use Rattle.gb_merge.proofs.rest.Rest.is_empty.Goals as goal

pub returns : goal.returns
returns c =
    let both = empty_kept c.self.inside.skips c.self.inside.entries.now c.self.invariant in
    (λ yes. sym c.self.view_is ∙ both.0 (sym c.is_empty.ensures ∙ yes), λ none. c.is_empty.ensures ∙ both.1 (c.self.view_is ∙ none))
