use Rattle.gb_types.specs.Common.{rules, sym, ◌∙◌}
use Rattle.gb_node.proofs.SetLemmas.{one_set, within_itself}
use Rattle.gb_node.proofs.same.same_set.Goals as goal

pub returns-then-is_subset : goal.returns-then-is_subset
returns-then-is_subset c = (
  λ back. one_set c.args.first.now c.args.second.now (sym c.is_subset.ensures ∙ c.if-is_subset.true) (sym c.is_subset-then-is_subset.ensures ∙ back),
  λ same. c.is_subset-then-is_subset.ensures ∙ within_itself c.args.second.now c.args.first.now (sym same),
)

pub returns-else-is_subset : goal.returns-else-is_subset
returns-else-is_subset c = (
  λ there. one_set c.args.first.now c.args.second.now (sym c.is_subset.ensures ∙ there) (absurd (search rules)),
  λ same. c.is_subset.ensures ∙ within_itself c.args.first.now c.args.second.now same,
)
