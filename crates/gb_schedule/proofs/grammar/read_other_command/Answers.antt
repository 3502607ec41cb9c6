use Rattle.gb_types.specs.Common.{Some}
use Rattle.gb_types.proofs.ReadLemmas.{found}
use Rattle.gb_schedule.specs.Grammar.{IsCommandLine}
use Rattle.gb_schedule.proofs.PlaceLemmas.{line_in_place, command_in_place}
use Rattle.gb_schedule.proofs.grammar.read_other_command.Goals as goal

pub returns-in-Some-clause-in_place : goal.returns-in-Some-clause-in_place
returns-in-Some-clause-in_place c =
    let reads = rw c.in-Some.is at c.in_ok-said.ensures in
    line_in_place (Some c.args.nodes) c.args.line.now c.in-Some.said (found (IsCommandLine (Some c.args.nodes) c.args.line.now) c.in-Some.said reads)

pub returns-in-None-clause-in_place : goal.returns-in-None-clause-in_place
returns-in-None-clause-in_place c = command_in_place (Some c.args.nodes) c.args.line.now c.read_words.result c.read_words.ensures
