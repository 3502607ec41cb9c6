use Rattle.gb_types.specs.Common.{ℕ, List, length, append-nil, inr, subst, sym}
use Rattle.std.specs.Io.KnownBytes.{Appends}
use Rattle.gb_peer_run.specs.Told.{serving_line}
use Rattle.gb_peer_run.proofs.RefusedLemmas.{on_error}
use Rattle.gb_peer_run.proofs.ServedLemmas.{on_ok3}
use Rattle.gb_peer_run.proofs.peer_main.serve_words.Goals as goal

pub returns-clause-served : goal.returns-clause-served
returns-clause-served g c =
    let file = c.in_ok-file.file in
    let line = serving_line c.args.words.now.plan.node (length file.nodes.items) file.run in
    on_ok3 c.serve_file-outcome.result
    (λ there told read. (
      file,
      record {
        text = c.in_ok-file.ensures.file.0;
        filed = c.in_ok-file.ensures.file.1;
        there = there;
        spelt = read.0;
        behind = read.1;
        consumed = read.4;
        keys = read.2;
        are = read.3;
        told = subst (λ (w : List ℕ). Appends (g.W.Write.contents c.args.writer.now) (g.W.Write.contents c.serve_file-outcome.new.writer) w) (sym (append-nil line)) told;
      },
    ))
    c.serve_file-outcome.ensures.there c.serve_file-outcome.ensures.told c.serve_file-outcome.ensures.read

pub returns-clause-refused : goal.returns-clause-refused
returns-clause-refused g c =
    on_error _ _ c.serve_file-outcome.result
    (λ fault known two. let all = known two in (inr (c.in_ok-file.ensures.file.0, c.in_ok-file.file, c.in_ok-file.ensures.file.1, all.0), all.1, all.2))
    c.serve_file-outcome.ensures.refused
