use Rattle.gb_types.specs.Common.{◌∙◌, ap, map}
use Rattle.clap.specs.Words.{App, takes}
use Rattle.gb_peer_words.proofs.words.asked_text.Goals as goal

pub returns : goal.returns
returns c = record {
  taken = λ taken.
      let memory = c.in-Err.ensures.passes (ap (λ (a : App). takes a (map (λ word. word.now) c.args.words.now)) c.in_ok-command.ensures ∙ taken) in
      rw (c.text_asked.ensures.memory memory) tt;
}
