use Rattle.gb_types.specs.Common.{◌<◌, ap, arith, nat_tests}
use Rattle.gb_detect.specs.Watch.{Watch}
use Rattle.gb_detect.proofs.SetLemmas.{is_due-inside}
use Rattle.gb_detect.proofs.detector.Detector.is_due.Goals as goal
use Rattle.gb_detect.proofs.detector.Detector.is_due.Goals.{then-node-self, else-node-self}

pub returns-then-not-contains : goal.returns-then-not-contains
returns-then-not-contains c =
    let a = c.self.inside in
    let b = c.args.node.number in
    let lt : b < a.nodes = omega (arith, ap (λ (d : Watch). d.nodes) c.self.view_is) in
    let e = is_due-inside a.me.number a.nodes a.silence a.silences a.noticed b lt in
    rw (← c.self.view_is)
    (elim c.if-node-self.branch [
      | then-node-self w ↦ let known = w.contains.ensures in grind (arith, nat_tests, e, known)
      | else-node-self w ↦ grind (arith, nat_tests, w.value-is, w.if-node-self.false, c.if-not-contains.true)
    ])

pub returns-else-not-contains : goal.returns-else-not-contains
returns-else-not-contains c =
    let a = c.self.inside in
    let b = c.args.node.number in
    let lt : b < a.nodes = omega (arith, ap (λ (d : Watch). d.nodes) c.self.view_is) in
    let e = is_due-inside a.me.number a.nodes a.silence a.silences a.noticed b lt in
    rw (← c.self.view_is)
    (elim c.if-node-self.branch [
      | then-node-self w ↦ let known = w.contains.ensures in grind (arith, nat_tests, e, known)
      | else-node-self w ↦ grind (arith, nat_tests, e)
    ])
