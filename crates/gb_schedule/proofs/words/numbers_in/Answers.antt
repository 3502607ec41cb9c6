use Rattle.gb_types.specs.Common.{common_steps, ◌≡◌, ◌≤◌, ◌<◌, ◌^◌, ◌∙◌, ℕ, length, take, get_or, sym, ap, subst, rules, arith, take_all, get_or-take, length-take-le, All-from_get_or}
use Rattle.gb_types.proofs.ReadLemmas.{Reads}
use Rattle.gb_schedule.specs.Numbers.{AllFit, AreNumbers}
use Rattle.gb_schedule.proofs.NumbersLemmas.{as_many, at_most_fit, each_at_most, all_read, too_large, other_count}
use Rattle.gb_schedule.proofs.words.numbers_in.Goals as goal

pub returns-in_err-count : goal.returns-in_err-count
returns-in_err-count g c ns =
    let bounds : length c.args.most ≡ g.row.N = search rules in
    let few = c.requires in
    let fit : AllFit c.args.most = All-from_get_or (λ n. n < 2 ^ 64) c.args.most 0 (λ k below. search rules) in (
      λ is. cc (is, c.from_residual.ensures),
      λ are. let count = as_many c.args.most ns are.1 in absurd (c.in_err-count.ensures.none ns (at_most_fit c.args.most ns fit are.1) (omega (arith, count, bounds, few)) are.0),
    )

pub returns-then-count : goal.returns-then-count
returns-then-count g c ns =
    let bounds : length c.args.most ≡ g.row.N = search rules in
    let words = c.in_ok-count.ensures.found in
    let ms = take c.in_ok-count.count c.find_numbers.new.numbers in
    let fit : AllFit c.args.most = All-from_get_or (λ n. n < 2 ^ 64) c.args.most 0 (λ k below. search rules) in
    let count = length-take-le c.in_ok-count.count c.find_numbers.new.numbers words.0 in
    let other = c.if-count.true in (
      λ is. cc is,
      λ are. absurd (other_count c.args.most c.args.text.now ms fit words.1 words.2 (λ same. omega (arith, same, bounds, count, other)) ns are),
    )

pub returns-then-found-place : goal.returns-then-found-place
returns-then-found-place g c ns =
    let words = c.in_ok-count.ensures.found in
    let found = c.find_numbers.new.numbers in
    let place = c.loop-place.place in
    let below = c.loop-place-test.true in
    let all = c.if-count.false in
    let above = c.if-found-place.true in
    let fit : AllFit c.args.most = All-from_get_or (λ n. n < 2 ^ 64) c.args.most 0 (λ k below. search rules) in
    let same : get_or (take c.in_ok-count.count found) place 0 ≡ get_or found place 0 = get_or-take c.in_ok-count.count found place 0 (omega (arith, below, all)) in (
      λ is. cc is,
      λ are. absurd (too_large c.args.most c.args.text.now (take c.in_ok-count.count found) fit words.1 words.2 place (omega (arith, above, same)) ns are),
    )

pub returns : goal.returns
returns g c =
    let words = c.in_ok-count.ensures.found in
    let found = c.find_numbers.new.numbers in
    let count = c.in_ok-count.count in
    let numbers = c.loop-place.numbers in
    let bounds : length c.args.most ≡ g.row.N = search rules in
    let all = c.if-count.false in
    let end = c.loop-place-test.false in
    let high = c.loop-place.auto.place-end in
    let size = c.loop-place.invariant.0 in
    let fit : AllFit c.args.most = All-from_get_or (λ n. n < 2 ^ 64) c.args.most 0 (λ k below. search rules) in
    let long = length-take-le count found words.0 in
    let each : (k : ℕ) → k < length c.args.most → get_or (take count found) k 0 ≤ get_or c.args.most k 0 =
    λ k below. let same = get_or-take count found k 0 (omega (arith, below, bounds, all)) in let le = c.loop-place.invariant.2 k (omega (arith, below, bounds, end)) in omega (arith, same, le) in
    let whole : take c.loop-place.place numbers ≡ numbers = take_all c.loop-place.place numbers (omega (arith, size, end)) in
    let at : c.loop-place.place ≡ count = omega (arith, end, high, all) in
    let same : take count found ≡ numbers = ap (λ n. take n found) (sym at) ∙ sym c.loop-place.invariant.1 ∙ whole in
    subst (Reads (AreNumbers c.args.most c.args.text.now)) same (all_read c.args.most c.args.text.now (take count found) fit words.1 words.2 (each_at_most c.args.most (take count found) (omega (arith, long, bounds, all)) each))

pub loop-place-preserved : goal.loop-place-preserved
loop-place-preserved c = grind (arith, common_steps)
