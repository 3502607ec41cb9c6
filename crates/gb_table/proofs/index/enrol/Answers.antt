use Rattle.gb_types.specs.Common.{◌≡◌, ap, sym, refl, ◌∙◌, arith, if◌then◌else◌}
use Rattle.std.specs.FinSet as nodes
use Rattle.gb_table.proofs.MemberLemmas.{enrolled}
use Rattle.gb_table.proofs.index.enrol.Goals as goal
use Rattle.gb_table.proofs.index.enrol.Goals.{then-contains, else-contains}

pub loop-index-init : goal.loop-index-init
loop-index-init c = record { size = refl; here = λ who h. absurd (omega arith); others = λ who p ne. refl; words = λ who. refl }

pub loop-index-preserved : goal.loop-index-preserved
loop-index-preserved c =
    let members = c.args.members.now in
    let named : c.contains.result ≡ nodes.contains members c.loop-index.index = c.contains.ensures ∙ ap (λ n. nodes.contains members n) c.new.ensures in
    let size = c.loop-index.invariant.size in
    elim c.if-contains.branch [
      | then-contains w ↦
          rw w.memberships-is (enrolled c.loop-index.index c.args.place members c.args.memberships.now c.loop-index.memberships w.insert.new.self w.index-memberships-index.result (omega (arith, c.requires.size)) c.loop-index.invariant w.insert.ensures.others (w.insert.ensures.here ∙ ap (λ b. if b then 1 else 0) (sym w.if-contains.true ∙ named)) w.insert.ensures.length)
      | else-contains w ↦
          rw w.memberships-is (enrolled c.loop-index.index c.args.place members c.args.memberships.now c.loop-index.memberships w.remove.new.self w.index-memberships-index-else-contains.result (omega (arith, c.requires.size)) c.loop-index.invariant w.remove.ensures.others (w.remove.ensures.here ∙ ap (λ b. if b then 1 else 0) (sym w.if-contains.false ∙ named)) w.remove.ensures.length)
    ]
