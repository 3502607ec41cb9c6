use Rattle.gb_types.specs.Common.{arith, common_steps, ◌++◌, codes, rules, length-flat_map-take}
use Rattle.gb_spelling.specs.ReplyText.{entry_text}
use Rattle.gb_spelling.proofs.log_text.write_entries.Goals as goal

pub write_entry-at-requires : goal.write_entry-at-requires
write_entry-at-requires c =
    let room = length-flat_map-take (λ e. codes " " ++ entry_text e) c.args.entries.now c.loop-entry.entry-index c.entry-item.result (search rules) in
    search (rules, room)

pub loop-entry-preserved : goal.loop-entry-preserved
loop-entry-preserved c = grind (arith, common_steps)

pub returns-clause-end : goal.returns-clause-end
returns-clause-end c = grind (arith, common_steps)

pub returns-clause-text : goal.returns-clause-text
returns-clause-text c = grind (arith, common_steps)
