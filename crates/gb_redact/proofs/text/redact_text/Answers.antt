use Rattle.gb_types.specs.Common.{◌≡◌, ◌++◌, [], ◌∷◌, ℕ, List, sym, ap, ap₂, subst, ◌∙◌, append-nil}
use Rattle.gb_node.specs.declared.tape.TapeEntry.{TapeEntry}
use Rattle.gb_record_text.specs.RecordText.{head_line, entry_lines, last_line}
use Rattle.gb_redact.specs.Redacted.{AreRedacted}
use Rattle.gb_redact.specs.RedactedText.{marked}
use Rattle.gb_redact.proofs.TextLemmas.{marked_parts, whole_end, cut_end}
use Rattle.gb_redact.proofs.text.redact_text.Goals as goal
use Rattle.gb_redact.proofs.text.redact_text.Goals.{then-record+in_ok-put_bytes, else-record}

pub returns : goal.returns
returns c =
    let found = c.in_ok-record.record in
    let entries = c.in_ok-entries.entries.items in
    let lines = entry_lines found.head.node entries in
    let front = marked (head_line found.head ++ 10 ∷ []) in
    let begun : c.put_marked_head.new.out.items ≡ front = c.in_ok-put_marked_head.ensures ∙ ap (λ text. text ++ front) c.new-out.ensures.items in
    let before : c.put_entries.new.out.items ≡ front ++ lines = c.in_ok-put_entries.ensures ∙ ap₂ (λ (a b : List ℕ). a ++ b) begun (ap (entry_lines found.head.node) c.deref-2.ensures.value) in
    let all = λ (behind : List ℕ). marked (head_line found.head ++ 10 ∷ (lines ++ behind)) in
    record {
      found = found;
      is = c.in_ok-record.ensures.text;
      entries = entries;
      redacted = subst (λ (es : List TapeEntry). AreRedacted c.args.admin.now found.head.node es entries) c.deref.ensures.value c.in_ok-entries.ensures.redacted;
      lines = elim c.if-record.branch [
        | then-record+in_ok-put_bytes w ↦
            rw w.out-is (w.in_ok-put_bytes.ensures.ok ∙ (ap (λ text. text ++ last_line) before ∙ (marked_parts found.head lines last_line ∙ ap all (sym (whole_end found.is_whole w.if-record.true)))))
        | else-record w ↦
            rw w.out-is (before ∙ (sym (append-nil (front ++ lines)) ∙ (marked_parts found.head lines [] ∙ ap all (sym (cut_end found.is_whole w.if-record.false)))))
      ];
    }
