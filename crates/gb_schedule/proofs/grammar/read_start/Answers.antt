use Rattle.gb_types.specs.Common.{None, take, sym, ◌∙◌, option_map}
use Rattle.gb_schedule.specs.declared.command.Command.TheVariants.{Cluster}
use Rattle.gb_schedule.specs.Grammar.{IsCommandLine}
use Rattle.gb_types.proofs.ReadLemmas.{words_and_rest}
use Rattle.gb_schedule.proofs.CommandLemmas.{Finds, line_finds}
use Rattle.gb_schedule.proofs.PlaceLemmas.{start_in_place}
use Rattle.gb_schedule.proofs.grammar.read_start.Goals as goal

pub returns : goal.returns
returns c =
    let words = take c.in_ok-count.count c.words_in.new.words in
    let finds : Finds (IsCommandLine None c.args.line.now) (option_map Cluster c.start_of.result) =
    line_finds None c.args.line.now c.in_ok-read_head.field-0 _ _ (option_map Cluster c.start_of.result)
    (sym c.in_ok-count.ensures.found.1 ∙ words_and_rest words _ 1 c.in-len1-up.len_at_least)
    c.in_ok-read_head.ensures c.start_of.ensures in
    record { spelt = finds; right = start_in_place c.args.line.now c.start_of.result finds }
