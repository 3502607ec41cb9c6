use Rattle.gb_types.specs.Common.{List, ℕ, sym, subst}
use Rattle.gb_spelling.specs.declared.command_words.CommandHead.TheVariants.{Fetch}
use Rattle.gb_schedule.specs.declared.command.Command.TheVariants.{Step}
use Rattle.gb_schedule.specs.Grammar.{SpellsGroup}
use Rattle.gb_schedule.proofs.grammar.read_any_fetch.Goals as goal

pub returns : goal.returns
returns c step = (
  λ is. subst (λ (ws : List (List ℕ)). SpellsGroup Fetch c.args.nodes (Step step) ws) c.in_ok-count.ensures.found.1 ((c.read_fetch_words.ensures step).0 is),
  λ spelt. (c.read_fetch_words.ensures step).1 (subst (λ (ws : List (List ℕ)). SpellsGroup Fetch c.args.nodes (Step step) ws) (sym c.in_ok-count.ensures.found.1) spelt),
)
