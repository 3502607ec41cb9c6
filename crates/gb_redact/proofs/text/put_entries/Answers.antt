use Rattle.gb_types.specs.Common.{◌++◌, [], ◌∷◌, take, sym, ap, ◌∙◌, append_assoc}
use Rattle.gb_record_text.specs.RecordText.{entry_line, entry_lines}
use Rattle.gb_redact.proofs.TextLemmas.{lines_more}
use Rattle.gb_redact.proofs.text.put_entries.Goals as goal

pub loop-entry-preserved : goal.loop-entry-preserved
loop-entry-preserved c =
    let b = c.args.node in
    let es = c.args.entries.now in
    let k = c.loop-entry.entry-index in
    let e = c.entry-item.result in
    let front = entry_lines b (take k es) in
    let line = entry_line b e ++ 10 ∷ [] in
    let now = c.in_ok-put_bytes.ensures.ok ∙ (ap (λ text. text ++ 10 ∷ []) c.in_ok-put_entry.ensures ∙ append_assoc c.loop-entry.out.items (entry_line b e) (10 ∷ [])) in
    let all = ap (λ text. text ++ line) c.loop-entry.invariant ∙ append_assoc c.args.out.now.items front line in
    now ∙ (all ∙ ap (λ text. c.args.out.now.items ++ text) (sym (lines_more b es k e c.loop-entry-test.true ∙ ap (λ x. front ++ (entry_line b x ++ 10 ∷ [])) (sym c.entry-item.is))))
