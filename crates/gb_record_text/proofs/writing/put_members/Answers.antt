use Rattle.gb_types.specs.Common.{◌+◌, ◌++◌, ◌∙◌, sym, ap, append-nil, decimal, rising_from}
use Rattle.gb_record_text.specs.RecordText.{each_after_comma}
use Rattle.gb_record_text.proofs.TextLemmas.{members_none, members_some, joined}
use Rattle.gb_answer_text.proofs.NoticedLemmas.{on_ok}
use Rattle.gb_record_text.proofs.writing.put_members.Goals as goal

pub returns-in-None : goal.returns-in-None
returns-in-None c = sym (append-nil c.args.out.now.items) ∙ ap (λ xs. c.args.out.now.items ++ xs) (sym (members_none c.args.members.now c.in-None.ensures))

pub returns-in_ok-put_number-in-Some : goal.returns-in_ok-put_number-in-Some
returns-in_ok-put_number-in-Some c =
    let s = c.args.members.now in
    let n = c.in-Some.node.number in
    on_ok c.put_commas.result
    (λ is. joined c.args.out.now.items c.put_number.new.out.items c.put_commas.new.out.items (decimal n) (each_after_comma (rising_from s (c.index.result + 1))) _ (c.in_ok-put_number-in-Some.ensures.ok ∙ ap (λ k. c.args.out.now.items ++ decimal k) c.from.ensures) is
    (members_some s n (rising_from s (n + 1)) c.in-Some.ensures ∙ ap (λ k. decimal n ++ each_after_comma (rising_from s (k + 1))) (sym c.index.ensures.value)))
    c.put_commas.ensures
