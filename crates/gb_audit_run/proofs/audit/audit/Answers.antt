use Rattle.gb_types.specs.Common.{◌≡◌, ◌<◌, map, length, ap, sym, subst, ◌∙◌, arith, All, AllPairs, sum}
use Rattle.std.proofs.lemmas.List.FromFn.{length-map-range_with_len}
use Rattle.gb_merge.specs.Common.{IsMergedFront}
use Rattle.gb_record_text.specs.declared.reader.Record.{Record}
use Rattle.gb_audit_run.specs.Audits.{AreOfOne, IsAllAnswered, IsOfPlan, entries_of}
use Rattle.gb_audit_run.specs.Counts.{AreCounted}
use Rattle.gb_audit_run.proofs.AuditLemmas.{heads_of_one, heads_of_all, the_only}
use Rattle.gb_audit_run.proofs.audit.audit.Goals as goal
use Rattle.gb_audit_run.proofs.audit.audit.Goals.{then-have_entries, else-have_entries+in_ok-counts+in_ok-verdict}

pub plan_of-requires : goal.plan_of-requires
plan_of-requires c =
    let are = rw c.in-Some.is at c.in_ok-records.ensures.records in
    let heads : c.deref-2.result.now ≡ map (λ (r : Record). r.head) c.in-Some.records.items = c.deref-2.ensures.value ∙ (c.in_ok-heads.ensures ∙ ap (map (λ (r : Record). r.head)) c.deref.ensures.value) in
    record { one = subst (AllPairs AreOfOne) (sym heads) (heads_of_one c.in-Some.records.items are.one) }

pub are_replayed-requires-clause-here : goal.are_replayed-requires-clause-here
are_replayed-requires-clause-here c =
    let heads : c.deref-2.result.now ≡ map (λ (r : Record). r.head) c.in-Some.records.items = c.deref-2.ensures.value ∙ (c.in_ok-heads.ensures ∙ ap (map (λ (r : Record). r.head)) c.deref.ensures.value) in
    let fit : All (λ (r : Record). IsOfPlan c.in-Some-plan_of.plan r.head) c.in-Some.records.items = heads_of_all (IsOfPlan c.in-Some-plan_of.plan) c.in-Some.records.items (subst (All (IsOfPlan c.in-Some-plan_of.plan)) heads c.in-Some-plan_of.ensures.fit) in
    subst (All (λ (r : Record). r.head.node.number < c.in-Some-plan_of.plan.nodes)) (sym c.deref-3.ensures.value) (λ k d lt. (fit k d lt).here)

pub tapes_of-requires : goal.tapes_of-requires
tapes_of-requires c =
    let heads : c.deref-2.result.now ≡ map (λ (r : Record). r.head) c.in-Some.records.items = c.deref-2.ensures.value ∙ (c.in_ok-heads.ensures ∙ ap (map (λ (r : Record). r.head)) c.deref.ensures.value) in
    let fit : All (λ (r : Record). IsOfPlan c.in-Some-plan_of.plan r.head) c.in-Some.records.items = heads_of_all (IsOfPlan c.in-Some-plan_of.plan) c.in-Some.records.items (subst (All (IsOfPlan c.in-Some-plan_of.plan)) heads c.in-Some-plan_of.ensures.fit) in
    record { here = λ k d lt. (fit k d lt).here }

pub merge_front-requires-clause-one_each : goal.merge_front-requires-clause-one_each
merge_front-requires-clause-one_each c = ap length (c.deref-6.ensures.value ∙ c.in_ok-tapes.ensures) ∙ length-map-range_with_len (entries_of c.in-Some.records.items) 0 c.in-Some-plan_of.plan.nodes

pub returns : goal.returns
returns c =
    let are = rw c.in-Some.is at c.in_ok-records.ensures.records in
    let heads : c.deref-2.result.now ≡ map (λ (r : Record). r.head) c.in-Some.records.items = c.deref-2.ensures.value ∙ (c.in_ok-heads.ensures ∙ ap (map (λ (r : Record). r.head)) c.deref.ensures.value) in
    let fit : All (λ (r : Record). IsOfPlan c.in-Some-plan_of.plan r.head) c.in-Some.records.items = heads_of_all (IsOfPlan c.in-Some-plan_of.plan) c.in-Some.records.items (subst (All (IsOfPlan c.in-Some-plan_of.plan)) heads c.in-Some-plan_of.ensures.fit) in
    let answered : All IsAllAnswered c.in-Some.records.items = subst (All IsAllAnswered) c.deref-3.ensures.value (c.in_ok-are_replayed.ensures c.if-not-branch.false) in
    let counted : All (λ (r : Record). AreCounted r.entries.items) c.in-Some.records.items = subst (All (λ (r : Record). AreCounted r.entries.items)) c.deref-4.ensures.value (rw c.in_default-gap.is at c.in_ok-gap.ensures) in
    let size : c.len.result ≡ length c.in-Ok.events.items = omega (arith, c.len.ensures, c.in-Ok.events.ok.0) in
    let all : sum (map length c.deref-7.result.now) ≡ sum (map length c.in_ok-tapes.tapes.items) = ap (λ ts. sum (map length ts)) c.deref-7.ensures.value in
    record {
      records = c.in-Some.records.items;
      are = are;
      only = the_only c.one_text_one_record.ensures c.args.sources.now c.in-Some.records.items are.read (rw c.in-Some.is at c.in_ok-records.ensures.fit) answered;
      counted = counted;
      plan = c.in-Some-plan_of.ensures.plan;
      fit = fit;
      cluster_key = c.in-Some-plan_of.ensures.keys.0;
      admin_key = c.in-Some-plan_of.ensures.keys.1;
      tapes = c.in_ok-tapes.ensures;
      front = subst (λ ts. IsMergedFront c.in-Some-plan_of.plan ts c.in-Ok.events.items) c.deref-6.ensures.value c.in-Ok.ensures.ok;
      whole = elim c.if-have_entries.branch [
        | then-have_entries w ↦ (λ _. sym size ∙ (c.have_entries.ensures.0 w.if-have_entries.true ∙ all), λ _. w.verdict-is)
        | else-have_entries+in_ok-counts+in_ok-verdict w ↦ (
          λ is. absurd (w.in_ok-verdict.ensures (sym w.verdict-is ∙ is)),
          λ same. absurd (let wrong = sym w.if-have_entries.false ∙ c.have_entries.ensures.1 (size ∙ (same ∙ sym all)) in cc),
        )
      ];
    }
