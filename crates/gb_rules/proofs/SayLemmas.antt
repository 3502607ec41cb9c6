-- The facts that hold when a message gets a number.
use Rattle.gb_types.specs.Common.{◌≡◌, ℕ, ◌+◌, Bool, true, false, refl, length, nat_lt, nat_le, if◌then◌else◌}
use Rattle.gb_types.specs.declared.{new_message.NewMessage.NewMessage, reply.Reply.TheVariants.Said, reply.Reply.TheVariants.Refused, version.Version.Version}
use Rattle.gb_types.specs.declared.refusal.Refusal.TheVariants.{TooLong, Budget, Bytes, Window, BadPlace}
use Rattle.gb_rules.specs.Group.{Shown, is_out_of_turn, is_too_long, say_answer}
use Rattle.gb_rules.specs.declared.phase.Phase.{Phase}
use Rattle.gb_rules.specs.declared.phase.Phase.TheVariants.{Made, Opened, Shut, Gone}

-- a message got a number: the next one, in turn, and within the limits
pub record IsSaid (version : Version) (s : Shown) (message : NewMessage) (seq : ℕ) : Type 0 where
  pub next : seq ≡ s.usage.said + 1
  pub in_turn : is_out_of_turn s.usage.said message.seq ≡ false
  pub short : is_too_long version message.payload ≡ false
  pub within : nat_le s.spec.msgs s.usage.said ≡ false
  pub light : nat_lt s.spec.bytes (s.usage.bytes + length message.payload) ≡ false

pub said_is : (version : Version) (s : Shown) (message : NewMessage) (seq : ℕ) → say_answer version s message ≡ Said seq → IsSaid version s message seq
said_is version s message seq = by s.phase
  where
    chain : (turn long many heavy full : Bool) → is_out_of_turn s.usage.said message.seq ≡ turn → is_too_long version message.payload ≡ long → nat_le s.spec.msgs s.usage.said ≡ many
        → nat_lt s.spec.bytes (s.usage.bytes + length message.payload) ≡ heavy
        → (if turn then Refused BadPlace else (if long then Refused TooLong else (if many then Refused Budget else (if heavy then Refused Bytes else (if full then Refused Window else Said (s.usage.said + 1)))))) ≡ Said seq
        → IsSaid version s message seq
    chain true long many heavy full c d e f h = absurd (cc)
    chain false true many heavy full c d e f h = absurd (cc)
    chain false false true heavy full c d e f h = absurd (cc)
    chain false false false true full c d e f h = absurd (cc)
    chain false false false false true c d e f h = absurd (cc)
    chain false false false false false c d e f h = record { next = cc; in_turn = c; short = d; within = e; light = f }

    by : (phase : Phase) → say_answer version (record s { phase = phase }) message ≡ Said seq → IsSaid version s message seq
    by Made h = absurd (cc)
    by Shut h = absurd (cc)
    by Gone h = absurd (cc)
    by Opened h =
        chain (is_out_of_turn s.usage.said message.seq) (is_too_long version message.payload) (nat_le s.spec.msgs s.usage.said) (nat_lt s.spec.bytes (s.usage.bytes + length message.payload))
        (nat_le s.spec.window s.usage.unfinished) refl refl refl refl h
