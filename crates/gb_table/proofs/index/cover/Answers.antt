use Rattle.gb_types.specs.Common.{◌≡◌, ◌<◌, length, ap, sym, ◌∙◌, arith}
use Rattle.std.specs.FinSet as nodes
use Rattle.gb_table.proofs.CoveredLemmas.{grown_none, grown_one, word_below, word_one, word_skip}
use Rattle.gb_table.proofs.index.cover.Goals as goal
use Rattle.gb_table.proofs.index.cover.Goals.{then-contains+in_ok-cover, else-contains}

pub loop-index-init : goal.loop-index-init
loop-index-init c = record { grown = grown_none c.args.sets.now; words = word_below 0 c.args.place c.args.members.now c.args.sets.now (omega arith) }

pub loop-index-preserved : goal.loop-index-preserved
loop-index-preserved c =
    let i = c.loop-index.invariant in
    let index = c.loop-index.index in
    let sets = c.loop-index.sets in
    let members = c.args.members.now in
    let size = i.grown.size in
    let named : c.contains.result ≡ nodes.contains members index = c.contains.ensures ∙ ap (λ n. nodes.contains members n) c.new.ensures in
    elim c.if-contains.branch [
      | then-contains+in_ok-cover w ↦
          let there : index < length sets = omega (arith, c.requires.size) in
          rw w.sets-is (record {
            grown = grown_one index c.args.sets.now sets w.cover.new.self w.index-sets-index.result there i.grown w.cover.ensures.same w.cover.ensures.longer;
            words = word_one index c.args.place members sets w.cover.new.self there i.words (omega (arith, w.in_ok-cover.ensures.words));
          })
      | else-contains w ↦ rw w.sets-is (record { grown = i.grown; words = word_skip index c.args.place members sets (sym named ∙ w.if-contains.false) i.words })
    ]
