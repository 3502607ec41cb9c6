use Rattle.gb_types.specs.Common.{ap, sym, subst, ◌∙◌, nat_cmp}
use Rattle.std.specs.FinSet as set
use Rattle.gb_detect.specs.Watch.{Watch, AreNoticed}
use Rattle.gb_detect.proofs.ReplayLemmas.{stands-noticed}
use Rattle.gb_detect.proofs.detector.Detector.noticed.Goals as goal

copied : goal.returns-clause-value
copied c = c.duplicate.ensures ∙ (sym c.self.invariant.2 ∙ ap (λ (d : Watch). d.noticed) c.self.view_is)

pub returns-clause-value : goal.returns-clause-value
returns-clause-value c = copied c

pub returns-clause-definition : goal.returns-clause-definition
returns-clause-definition c calls stands =
    subst (λ (s : set.FinSet nat_cmp). AreNoticed c.args.self.now calls s) (sym (copied c)) (stands-noticed calls c.args.self.now stands)
