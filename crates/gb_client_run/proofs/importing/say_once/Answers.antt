use Rattle.gb_types.specs.Common.{rules}
use Rattle.gb_client_run.proofs.importing.say_once.Goals as goal

pub returns : goal.returns
returns g c = record {
  exchange = record { port = c.sessions_port-port.result; body = c.in_ok-body.body.items; reply = c.in_ok-text.text.items };
  asked_so = (c.sessions_port-port.ensures, c.in_ok-body.ensures.asked);
  exchanged = search rules;
  reply_is = search rules;
}
