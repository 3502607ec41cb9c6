use Rattle.gb_types.specs.Common.{◌∙◌, ◌++◌, ap, sym}
use Rattle.gb_past.specs.Story.{Known}
use Rattle.gb_node.specs.declared.tape.TapeEntry.{TapeEntry}
use Rattle.gb_host.proofs.pasts.show.Goals as goal

pub returns-clause-before : goal.returns-clause-before
returns-clause-before c = let h = c.learn.ensures.before in (h.0, ap (λ (s : Known TapeEntry). s.log) (sym c.learn.ensures.all) ∙ (sym h.1 ∙ ap (λ (s : Known TapeEntry). s.log ++ h.0) c.again-both.ensures))
