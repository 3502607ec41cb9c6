use Rattle.gb_types.specs.Common.{◌∙◌, Option, ℕ, ap, arith, codes, unwrap_or}
use Rattle.std.specs.Str.Parse.{ParsesUnsigned, ExplainsUnsignedError, HasUnsignedDigitsIfOk}
use Rattle.clap.specs.Words.{found_of}
use Rattle.gb_serve_words.specs.declared.options.TheConstants.{MOST_CONNECTIONS, MOST_SESSIONS}
use Rattle.gb_serve_words.proofs.NumberLemmas.{reads, reads_flag, within_or}
use Rattle.gb_door.specs.declared.words.TheConstants.{CONNECTIONS}
use Rattle.gb_door.proofs.words.plan_of.Goals as goal

pub returns : goal.returns
returns c =
    let f = found_of c.args.matches.now in
    let connections = reads 16 1 MOST_CONNECTIONS _ (λ bs r. ParsesUnsigned 16 10 bs r × ExplainsUnsignedError 10 bs r × HasUnsignedDigitsIfOk bs r) (λ u x g. g.0) (omega arith)
    f (codes "connections") c.get_one-connections.result c.requires.given.connections c.get_one-connections.ensures.none c.get_one-connections.ensures.value in
    let sessions = reads 16 0 MOST_SESSIONS _ (λ bs r. ParsesUnsigned 16 10 bs r × ExplainsUnsignedError 10 bs r × HasUnsignedDigitsIfOk bs r) (λ u x g. g.0) (omega arith)
    f (codes "sessions") c.get_one-sessions.result c.requires.given.sessions c.get_one-sessions.ensures.none c.get_one-sessions.ensures.value in
    record {
      read = record {
        listen = c.requires.listens;
        node = c.requires.asks;
        connections = c.unwrap_or.ensures ∙ ap (λ (o : Option ℕ). unwrap_or o CONNECTIONS) connections.0;
        sessions = c.unwrap_or-2.ensures ∙ ap (λ (o : Option ℕ). unwrap_or o 0) sessions.0;
        remote_clients = reads_flag f (codes "remote-clients") c.get_flag-remote_clients.result c.requires.given.remote_clients c.get_flag-remote_clients.ensures.none c.get_flag-remote_clients.ensures.value c.get_flag-remote_clients.ensures.other;
      };
      within = record {
        connections = rw c.unwrap_or.ensures (within_or 1 MOST_CONNECTIONS CONNECTIONS c.get_one-connections.result (omega arith) (omega arith) connections.1);
        sessions = rw c.unwrap_or-2.ensures (within_or 0 MOST_SESSIONS 0 c.get_one-sessions.result (omega arith) (omega arith) sessions.1).1;
      };
    }
