use Rattle.gb_types.specs.Common.{rules, Bool}
use Rattle.std.proofs.lemmas.Fn.{filter_same}
use Rattle.gb_node.specs.declared.tape.TapeEntry.{TapeEntry}
use Rattle.gb_record.specs.Recorded.{gives_some}
use Rattle.gb_record.proofs.recording.keep_packets.Goals as goal

pub returns : goal.returns
returns c =
    let test : TapeEntry → Bool = λ e. gives_some e.answer in
    filter_same _ test _ (λ x b f' k. search rules) _ _ c.retain.ensures.filtered
