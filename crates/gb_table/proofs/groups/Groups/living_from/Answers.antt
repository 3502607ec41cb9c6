use Rattle.gb_types.specs.Common.{◌≡◌, suc, ap, ◌∙◌, sym, take, drop, arith, ◌&&◌, not, is_some, count_by, ◌+◌}
use Rattle.gb_rules.specs.Common.{is_addr}
use Rattle.gb_table.specs.SlotsValue.{Row, row_at}
use Rattle.gb_table.proofs.ListingLemmas.{flag_most, next_counted}
use Rattle.gb_table.proofs.groups.Groups.living_from.Goals as goal

pub loop-nth-preserved : goal.loop-nth-preserved
loop-nth-preserved c =
    let t = λ (row : Row). is_some row.slot && not (is_addr c.args.addr row.addr) in
    let rows = c.args.self.now.rows in
    let n = c.loop-nth.nth in
    let next = next_counted t rows c.args.from n (omega (arith, c.requires.within, c.loop-nth-test.true)) in
    let old = c.loop-nth.invariant.0 in
    let most = c.loop-nth.invariant.1 in
    let one = c.count_other-living.ensures in
    let s : suc n ≡ n + 1 = omega arith in
    let few = flag_most (t (row_at rows (c.args.from + n))) in
    (ap (λ k. k + c.count_other-living.result) old ∙ (ap (λ k. count_by t (take n (drop c.args.from rows)) + k) one ∙ (sym next ∙ ap (λ k. count_by t (take k (drop c.args.from rows))) s)), omega (arith, one, most, few))
