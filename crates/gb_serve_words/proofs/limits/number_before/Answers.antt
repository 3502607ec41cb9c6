use Rattle.gb_types.specs.Common.{◌≡◌, None, Some, arith, rules, subst, sym}
use Rattle.gb_serve_words.proofs.LimitLemmas.{Spells, marked, unmarked}
use Rattle.gb_serve_words.proofs.limits.number_before.Goals as goal

pub returns-in-None : goal.returns-in-None
returns-in-None c = unmarked c.args.text.now c.args.mark c.args.most c.in-None.ensures.cases c.requires

pub returns-in-None-read_number : goal.returns-in-None-read_number
returns-in-None-read_number c =
    let same : c.in-Some.before.now ≡ c.as_bytes.result.now = search rules in
    marked c.args.text.now c.args.mark c.args.most c.in-Some.before c.in-Some.behind None c.in-Some.ensures.cases c.requires (omega arith)
    (subst (λ w. Spells None w c.args.most) (sym same) c.in-None-read_number.ensures)

pub returns-in-Some-read_number : goal.returns-in-Some-read_number
returns-in-Some-read_number c =
    let same : c.in-Some.before.now ≡ c.as_bytes.result.now = search rules in
    marked c.args.text.now c.args.mark c.args.most c.in-Some.before c.in-Some.behind (Some c.in-Some-read_number.number) c.in-Some.ensures.cases c.requires (omega arith)
    (subst (λ w. Spells (Some c.in-Some-read_number.number) w c.args.most) (sym same) c.in-Some-read_number.ensures)
