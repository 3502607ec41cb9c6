use Rattle.gb_types.specs.Common.{◌≡◌, ap, ◌∙◌, sym, subst, arith, nat_cmp}
use Rattle.std.specs.FinSet as set
use Rattle.gb_detect.specs.Watch.{Watch, nodes_where, is_due, due, AreNew}
use Rattle.gb_detect.proofs.SetLemmas.{nodes_where-zero, nodes_where-more, nodes_where-same}
use Rattle.gb_detect.proofs.ReplayLemmas.{stands-due}
use Rattle.gb_detect.proofs.detector.Detector.due.Goals as goal
use Rattle.gb_detect.proofs.detector.Detector.due.Goals.{then-is_due, else-is_due}

pub loop-number-init : goal.loop-number-init
loop-number-init c = c.new-found.ensures ∙ sym (nodes_where-zero (is_due c.args.self.now))

pub loop-number-preserved : goal.loop-number-preserved
loop-number-preserved c =
    let p = is_due c.args.self.now in
    let i = c.loop-number.number in
    elim c.if-is_due.branch [
      | then-is_due w ↦
          let more = nodes_where-more p i (sym c.is_due.ensures ∙ w.if-is_due.true) in
          cc (more, w.insert.ensures, w.found-is, c.loop-number.invariant)
      | else-is_due w ↦
          let more = nodes_where-same p i (sym c.is_due.ensures ∙ w.if-is_due.false) in
          cc (more, w.found-is, c.loop-number.invariant)
    ]

pub returns-clause-definition : goal.returns-clause-definition
returns-clause-definition c calls stands =
    let d = c.args.self.now in
    let end : c.loop-number.number ≡ d.nodes = omega (arith, ap (λ (d : Watch). d.nodes) c.self.view_is) in
    let all : c.loop-number.found ≡ due d = c.loop-number.invariant ∙ ap (λ n. nodes_where n (is_due d)) end in
    subst (λ (s : set.FinSet nat_cmp). AreNew d calls s) (sym all) (stands-due calls d stands)
