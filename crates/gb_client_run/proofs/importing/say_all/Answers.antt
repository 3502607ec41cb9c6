use Rattle.gb_types.specs.Common.{◌≡◌, arith, rules, subst, ◌∙◌}
use Rattle.std.specs.Io.KnownBytes.{Appends}
use Rattle.gb_client_run.specs.declared.importing.Told.TheVariants.{Said, Refused}
use Rattle.gb_client_run.proofs.ImportLemmas.{says_more, says_refused, says_failed}
use Rattle.gb_client_run.proofs.importing.say_all.Goals as goal

pub entries-preserved : goal.entries-preserved
entries-preserved g c =
    let told : c.in-Ok-Said.field-0 ≡ Said c.in-Ok-Said.seq = search rules in
    says_more g.N.Nodes.asks _ _ _ _ c.args.entries.now c.entries.place _ c.index-entries-place.result c.in-Ok-Said.seq _ _ _ _ _ _ (omega (arith, c.entries-test.true)) c.index-entries-place.is c.entries.invariant
    (rw told at (rw c.as_slice-payload.ensures at c.in-Ok-Said.ensures))
    (subst (Appends (g.W.Write.contents c.entries.writer) (g.W.Write.contents c.print.new.writer)) (c.deref.ensures.value ∙ c.in_ok-line-in-Ok-Said.ensures) c.in_ok-print-in-Ok-Said.ensures.ok)

pub returns-in-Ok-Refused-clause-said : goal.returns-in-Ok-Refused-clause-said
returns-in-Ok-Refused-clause-said g c =
    let told : c.in-Ok-Refused.field-0 ≡ Refused c.in-Ok-Refused.why = search rules in
    says_refused g.N.Nodes.asks _ _ _ _ c.args.entries.now c.entries.place _ c.index-entries-place.result c.in-Ok-Refused.why _ _ _ _ _ _ (omega (arith, c.entries-test.true)) c.index-entries-place.is c.entries.invariant
    (rw told at (rw c.as_slice-payload.ensures at c.in-Ok-Refused.ensures)) c.in_ok-print_refusal-in-Ok-Refused.ensures

pub returns-in-Err-clause-said : goal.returns-in-Err-clause-said
returns-in-Err-clause-said g c =
    says_failed g.N.Nodes.asks _ _ _ _ c.args.entries.now c.entries.place _ c.index-entries-place.result c.in-Err.fault _ _ _ _ _ (omega (arith, c.entries-test.true)) c.index-entries-place.is c.entries.invariant
