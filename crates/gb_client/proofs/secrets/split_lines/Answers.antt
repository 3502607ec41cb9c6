use Rattle.gb_types.specs.Common.{rules, tests, ◌≡◌, ◌==◌, map, IfOk, slice_split}
use Rattle.std.proofs.{lemmas.Iterator.Consumers.map_from_collect, lemmas.Iterator.Splits.YieldsList-from_slice_split}
use Rattle.gb_client.proofs.secrets.split_lines.Goals as goal

pub returns : goal.returns
returns c =
    let all : IfOk c.collect.result (λ v. map (λ line. line.now) v.items ≡ slice_split (λ byte. byte == 10) c.args.text.now) =
    map_from_collect _ c.collect.ensures.ran (YieldsList-from_slice_split _ _ c.args.text.now c.split.ensures.rest c.split.ensures.done c.split.ensures.closure (λ x r q k. search (rules, tests))) in
    rw c.in_ok-collect.was at all
