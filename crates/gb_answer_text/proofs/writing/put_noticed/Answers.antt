use Rattle.gb_types.specs.Common.{◌+◌, ◌++◌, sym, ◌∙◌, ap, rising_from}
use Rattle.gb_answer_text.specs.AnswerText.{each_after_space}
use Rattle.gb_answer_text.proofs.NoticedLemmas.{noticed-none, noticed-some, joined, on_ok}
use Rattle.gb_answer_text.proofs.writing.put_noticed.Goals as goal

pub returns-in_ok-extend_from_slice-in-None-clause-ok : goal.returns-in_ok-extend_from_slice-in-None-clause-ok
returns-in_ok-extend_from_slice-in-None-clause-ok c =
    c.in_ok-extend_from_slice-in-None.ensures.items ∙ ap (λ xs. c.args.out.now.items ++ xs) (sym (noticed-none c.args.found.now c.in-None.ensures))

pub returns-in_ok-extend_from_slice-in-Some-clause-ok : goal.returns-in_ok-extend_from_slice-in-Some-clause-ok
returns-in_ok-extend_from_slice-in-Some-clause-ok c =
    on_ok c.put_each.result
    (λ is. is ∙ joined c.args.out.now.items c.extend_from_slice-in-Some.new.self.items (each_after_space (rising_from c.args.found.now 0)) _ c.in_ok-extend_from_slice-in-Some.ensures.items (noticed-some c.args.found.now c.in-Some.field-0.number (rising_from c.args.found.now (c.in-Some.field-0.number + 1)) c.in-Some.ensures))
    c.put_each.ensures.ok
