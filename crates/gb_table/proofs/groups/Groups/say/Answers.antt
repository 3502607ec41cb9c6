use Rattle.gb_types.specs.Common.{◌≡◌, ap, sym, ◌∙◌, length}
use Rattle.gb_types.specs.declared.reply.Reply.{Reply}
use Rattle.gb_rules.specs.Common.{Shown, say_answer, said_reply}
use Rattle.gb_slot.specs.Common.{slot_said}
use Rattle.gb_slot.proofs.SpecLemmas.{reaches-said}
use Rattle.gb_table.specs.SlotsValue.{row_at}
use Rattle.gb_table.specs.AtAddress.{on_address}
use Rattle.gb_table.proofs.LivingLemmas.{lives_at, reply_absent, reply_living, step_absent}
use Rattle.gb_table.proofs.SteppedLemmas.{stepped, quiet, put_out, word_there, keeps_said, at_address, others_are, rows_in, slot_here, slot_there, lives_nowhere}
use Rattle.gb_table.proofs.UnchangedLemmas.{queue-unsaid}
use Rattle.gb_table.proofs.groups.Groups.say.Goals as goal

pub unreachable-requires : goal.unreachable-requires
unreachable-requires c = lives_nowhere c.args.addr c.self.inside c.args.self.now c.in-Some.place c.self.view_is c.in_default-key_at.ensures (sym c.in-Some.is ∙ c.requires)

pub unreachable-requires-in_default-get_mut : goal.unreachable-requires-in_default-get_mut
unreachable-requires-in_default-get_mut c = slot_there c.self.inside c.in-Some.place c.in-Some-key_at.key c.self.invariant c.in-Some-key_at.ensures c.in_default-get_mut.ensures.value

pub note_reached-requires-clause-size : goal.note_reached-requires-clause-size
note_reached-requires-clause-size c = c.self.invariant.1.index.size

pub note_reached-requires-clause-words : goal.note_reached-requires-clause-words
note_reached-requires-clause-words c =
    let s = stepped (slot_said c.args.payload.now (said_reply c.say.result)) c.self.inside c.in-Some.place c.in-Some-key_at.key c.in-Some-get_mut.slot.now c.say.new.self c.self.invariant c.in-Some-key_at.ensures c.in-Some-get_mut.ensures.value c.say.ensures.state (keeps_said c.args.version (record { payload = c.args.payload.now; seq = c.args.seq }) (said_reply c.say.result) c.in-Some-get_mut.slot.now c.say.ensures.answer) in
    let there = (lives_at c.args.addr c.args.self.now.rows c.in-Some.place (sym c.in-Some.is ∙ c.requires)).0 in
    word_there (slot_said c.args.payload.now (said_reply c.say.result)) c.self.inside c.in-Some.place c.in-Some-key_at.key c.say.new.self c.self.invariant s

pub invariant_of-self : goal.invariant_of-self
invariant_of-self c =
    let s = stepped (slot_said c.args.payload.now (said_reply c.say.result)) c.self.inside c.in-Some.place c.in-Some-key_at.key c.in-Some-get_mut.slot.now c.say.new.self c.self.invariant c.in-Some-key_at.ensures c.in-Some-get_mut.ensures.value c.say.ensures.state (keeps_said c.args.version (record { payload = c.args.payload.now; seq = c.args.seq }) (said_reply c.say.result) c.in-Some-get_mut.slot.now c.say.ensures.answer) in
    let reply = said_reply c.say.result in
    (s.kept, put_out (slot_said c.args.payload.now reply) c.self.inside c.in-Some.place c.in-Some-key_at.key c.say.new.self c.note_reached.new.busy c.self.invariant s (reaches-said c.args.payload.now reply) c.in-Ok.ensures.put_out c.note_reached.ensures)

pub invariant_of-self-in-Err : goal.invariant_of-self-in-Err
invariant_of-self-in-Err c =
    let s = stepped (slot_said c.args.payload.now (said_reply c.say.result)) c.self.inside c.in-Some.place c.in-Some-key_at.key c.in-Some-get_mut.slot.now c.say.new.self c.self.invariant c.in-Some-key_at.ensures c.in-Some-get_mut.ensures.value c.say.ensures.state (keeps_said c.args.version (record { payload = c.args.payload.now; seq = c.args.seq }) (said_reply c.say.result) c.in-Some-get_mut.slot.now c.say.ensures.answer) in
    let reply = said_reply c.say.result in
    (s.kept, quiet (slot_said c.args.payload.now reply) c.self.inside c.in-Some.place c.in-Some-key_at.key c.say.new.self c.self.invariant s (λ d. ap length (queue-unsaid d c.args.payload.now reply (row_at (rows_in c.self.inside) c.in-Some.place) (λ seq e. let no : said_reply c.say.result ≡ _ = ap said_reply c.in-Err.is in absurd (cc)))))

pub returns-in-Ok-clause-reply : goal.returns-in-Ok-clause-reply
returns-in-Ok-clause-reply c =
    let there = (lives_at c.args.addr c.args.self.now.rows c.in-Some.place (sym c.in-Some.is ∙ c.requires)).0 in
    sym (ap said_reply c.in-Ok.is) ∙ (c.say.ensures.answer
    ∙ reply_living (λ s. say_answer c.args.version s (record { payload = c.args.payload.now; seq = c.args.seq })) c.args.addr c.args.self.now c.in-Some.place c.in-Some-get_mut.slot.now there (slot_here c.self.inside c.args.self.now c.in-Some.place c.in-Some-key_at.key c.in-Some-get_mut.slot.now c.self.view_is c.in-Some-key_at.ensures c.in-Some-get_mut.ensures.value))

pub returns-in-Ok-clause-rows : goal.returns-in-Ok-clause-rows
returns-in-Ok-clause-rows c =
    let s = stepped (slot_said c.args.payload.now (said_reply c.say.result)) c.self.inside c.in-Some.place c.in-Some-key_at.key c.in-Some-get_mut.slot.now c.say.new.self c.self.invariant c.in-Some-key_at.ensures c.in-Some-get_mut.ensures.value c.say.ensures.state (keeps_said c.args.version (record { payload = c.args.payload.now; seq = c.args.seq }) (said_reply c.say.result) c.in-Some-get_mut.slot.now c.say.ensures.answer) in
    let there = (lives_at c.args.addr c.args.self.now.rows c.in-Some.place (sym c.in-Some.is ∙ c.requires)).0 in
    at_address (slot_said c.args.payload.now (said_reply c.say.result)) c.args.addr c.self.inside c.args.self.now c.in-Some.place c.in-Some-key_at.key c.say.new.self c.self.view_is s there
    ∙ ap (λ (r : Reply). on_address c.args.addr (slot_said c.args.payload.now r) c.args.self.now.rows) (ap said_reply c.in-Ok.is)

pub returns-in-Ok-clause-others : goal.returns-in-Ok-clause-others
returns-in-Ok-clause-others c =
    let s = stepped (slot_said c.args.payload.now (said_reply c.say.result)) c.self.inside c.in-Some.place c.in-Some-key_at.key c.in-Some-get_mut.slot.now c.say.new.self c.self.invariant c.in-Some-key_at.ensures c.in-Some-get_mut.ensures.value c.say.ensures.state (keeps_said c.args.version (record { payload = c.args.payload.now; seq = c.args.seq }) (said_reply c.say.result) c.in-Some-get_mut.slot.now c.say.ensures.answer) in
    let there = (lives_at c.args.addr c.args.self.now.rows c.in-Some.place (sym c.in-Some.is ∙ c.requires)).0 in
    others_are (slot_said c.args.payload.now (said_reply c.say.result)) c.args.addr c.self.inside c.args.self.now c.in-Some.place c.in-Some-key_at.key c.say.new.self c.self.view_is s there

pub returns-in-Err-clause-reply : goal.returns-in-Err-clause-reply
returns-in-Err-clause-reply c =
    let there = (lives_at c.args.addr c.args.self.now.rows c.in-Some.place (sym c.in-Some.is ∙ c.requires)).0 in
    sym (ap said_reply c.in-Err.is) ∙ (c.say.ensures.answer
    ∙ reply_living (λ s. say_answer c.args.version s (record { payload = c.args.payload.now; seq = c.args.seq })) c.args.addr c.args.self.now c.in-Some.place c.in-Some-get_mut.slot.now there (slot_here c.self.inside c.args.self.now c.in-Some.place c.in-Some-key_at.key c.in-Some-get_mut.slot.now c.self.view_is c.in-Some-key_at.ensures c.in-Some-get_mut.ensures.value))

pub returns-in-Err-clause-rows : goal.returns-in-Err-clause-rows
returns-in-Err-clause-rows c =
    let s = stepped (slot_said c.args.payload.now (said_reply c.say.result)) c.self.inside c.in-Some.place c.in-Some-key_at.key c.in-Some-get_mut.slot.now c.say.new.self c.self.invariant c.in-Some-key_at.ensures c.in-Some-get_mut.ensures.value c.say.ensures.state (keeps_said c.args.version (record { payload = c.args.payload.now; seq = c.args.seq }) (said_reply c.say.result) c.in-Some-get_mut.slot.now c.say.ensures.answer) in
    let there = (lives_at c.args.addr c.args.self.now.rows c.in-Some.place (sym c.in-Some.is ∙ c.requires)).0 in
    at_address (slot_said c.args.payload.now (said_reply c.say.result)) c.args.addr c.self.inside c.args.self.now c.in-Some.place c.in-Some-key_at.key c.say.new.self c.self.view_is s there
    ∙ ap (λ (r : Reply). on_address c.args.addr (slot_said c.args.payload.now r) c.args.self.now.rows) (ap said_reply c.in-Err.is)

pub returns-in-Err-clause-others : goal.returns-in-Err-clause-others
returns-in-Err-clause-others c =
    let s = stepped (slot_said c.args.payload.now (said_reply c.say.result)) c.self.inside c.in-Some.place c.in-Some-key_at.key c.in-Some-get_mut.slot.now c.say.new.self c.self.invariant c.in-Some-key_at.ensures c.in-Some-get_mut.ensures.value c.say.ensures.state (keeps_said c.args.version (record { payload = c.args.payload.now; seq = c.args.seq }) (said_reply c.say.result) c.in-Some-get_mut.slot.now c.say.ensures.answer) in
    let there = (lives_at c.args.addr c.args.self.now.rows c.in-Some.place (sym c.in-Some.is ∙ c.requires)).0 in
    others_are (slot_said c.args.payload.now (said_reply c.say.result)) c.args.addr c.self.inside c.args.self.now c.in-Some.place c.in-Some-key_at.key c.say.new.self c.self.view_is s there

pub returns-in_default-clause-reply : goal.returns-in_default-clause-reply
returns-in_default-clause-reply c = c.absent.ensures ∙ reply_absent (λ (s : Shown). say_answer c.args.version s (record { payload = c.args.payload.now; seq = c.args.seq })) c.args.addr c.args.self.now (sym c.in_default.is ∙ c.requires)

pub returns-in_default-clause-rows : goal.returns-in_default-clause-rows
returns-in_default-clause-rows c = step_absent (slot_said c.args.payload.now c.absent.result) c.args.addr c.args.self.now.rows (sym c.in_default.is ∙ c.requires)
