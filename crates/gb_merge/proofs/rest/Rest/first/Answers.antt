use Rattle.gb_types.specs.Common.{◌≡◌, List, [], ◌∷◌, subst, MatchOption}
use Rattle.gb_node.specs.declared.tape.TapeEntry.{TapeEntry}
use Rattle.gb_merge.proofs.FedLemmas.{first_kept}
use Rattle.gb_merge.proofs.rest.Rest.first.Goals as goal

pub returns : goal.returns
returns c =
    subst (λ (left : List TapeEntry). MatchOption c.first.result (left ≡ []) (λ x. (more : List TapeEntry) × (left ≡ x.now ∷ more))) c.self.view_is
    (first_kept c.self.inside.skips c.self.inside.entries.now c.first.result c.first.ensures.value c.self.invariant)
