use Rattle.gb_types.specs.Common.{◌++◌, ◌∷◌, [], ◌∙◌, sym, ap, codes, decimal}
use Rattle.gb_record_text.proofs.TextLemmas.{joined3}
use Rattle.gb_answer_text.proofs.NoticedLemmas.{on_ok}
use Rattle.gb_replay.specs.Complaint.{complaint}
use Rattle.gb_replay.proofs.complaint.put_complaint.Goals as goal

pub returns-in_ok-put_number-in-Differs : goal.returns-in_ok-put_number-in-Differs
returns-in_ok-put_number-in-Differs c =
    on_ok c.put_bytes-in-Differs-2.result
    (λ is. joined3 c.args.out.now.items c.put_bytes-in-Differs.new.out.items c.put_number.new.out.items c.put_bytes-in-Differs-2.new.out.items (codes "schedule differs line ") (decimal c.in-Differs.line) (10 ∷ []) c.in_ok-put_bytes-in-Differs.ensures.ok c.in_ok-put_number-in-Differs.ensures.ok is
    ∙ ap (λ fault. c.args.out.now.items ++ complaint fault) (sym c.in-Differs.is))
    c.put_bytes-in-Differs-2.ensures.ok
