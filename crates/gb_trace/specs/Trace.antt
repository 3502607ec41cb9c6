-- Whole runs of a cluster, from events, answers and packets.
use Rattle.std.specs.Prelude.{ℕ, ◌≡◌, ◌+◌, List, [], ◌∷◌, ◌++◌, length, Option, Some, None, option_map, reverse}
use Rattle.std.specs.Option.{option_map_or, option_to_list}
use Rattle.gb_types.specs.declared.{address.Addr.Addr, node.NodeId.NodeId, plan.Plan.Plan}
use Rattle.gb_node.specs.declared.{answer.NodeAnswer.NodeAnswer, answer.Sent.Sent as SentValue, event.NodeEvent.NodeEvent, event.NodeEvent.TheVariants.Packet as Came, answer.Sent.TheVariants.Packet as SentPacket, answer.Sent.TheVariants.Nothing as SentNothing, answer.Sent.TheVariants.Refused as SentRefused}
use Rattle.gb_node.specs.declared.answer.NodeAnswer.TheVariants.{Reply as Replied, Taken, Sent, Ticked, Halted}
use Rattle.gb_cluster.specs.Common.{packet_numbered, receiver_of, IsStep, ClusterValue, new_cluster, NodeStep, ComesTo}
use Rattle.gb_cluster.specs.declared.{answer.Answer.Answer, answer.Sending.Sending, event.Event.Event, event.Event.TheVariants.At, event.Event.TheVariants.Arrive, posted.Posted.Posted, answer.Sending.TheVariants.Packet as SendingPacket, answer.Sending.TheVariants.Nothing as SendingNothing, answer.Sending.TheVariants.Refused as SendingRefused}
use Rattle.gb_cluster.specs.declared.answer.Answer.TheVariants.{Reply as AnswerReply, Taken as AnswerTaken, Sent as AnswerSent, Ticked as AnswerTicked, Halted as AnswerHalted}
use Rattle.gb_isolation.specs.{Isolation.IsSeenAlone, Project.fed_run, RunLaws.AtEachMoment, RunLaws.IsDenied}

-- what a node sent; a packet's number stands for its text among the packets
abbrev pub sent_as : List Posted → Sending → Option SentValue
sent_as packets (SendingPacket k) = option_map (λ (p : Posted). SentPacket p.text) (packet_numbered packets k)
sent_as packets SendingNothing = Some SentNothing
sent_as packets (SendingRefused why) = Some (SentRefused why)

-- the answer of the node that acted; None if no node acted
abbrev pub own_answer : List Posted → Answer → Option NodeAnswer
own_answer packets (AnswerReply reply) = Some (Replied reply)
own_answer packets (AnswerTaken taken) = Some (Taken taken)
own_answer packets (AnswerSent s) = option_map Sent (sent_as packets s)
own_answer packets (AnswerTicked ticked) = Some (Ticked ticked)
own_answer packets (AnswerHalted halted) = Some (Halted halted)
own_answer packets answer = None

-- what happened at a node by an event; nothing if the node did not answer
abbrev pub did_with : NodeId → NodeEvent → Option NodeAnswer → List NodeStep
did_with a event o = option_to_list (option_map (λ answer. record { node = a; event = event; answer = answer }) o)

-- What happened at a node by an event with its answer. An event at a node is that node's own. A packet that arrives is its text, at the node that it was sent to.
-- If there was no such packet, or no node answered, nothing happened.
abbrev pub did_in : List Posted → Event → Answer → List NodeStep
did_in packets (At a event) answer = did_with a event (own_answer packets answer)
did_in packets (Arrive k) answer = option_map_or (λ (p : Posted). did_with p.to (Came p.text) (own_answer packets answer)) (packet_numbered packets k) []

-- all that happened, in order; if there are more events than answers, or more answers than events, the surplus is ignored
unfoldable pub all_did : List Posted → List Event → List Answer → List NodeStep
all_did packets [] answers = []
all_did packets (e ∷ events) [] = []
all_did packets (e ∷ events) (a ∷ answers) = did_in packets e a ++ all_did packets events answers

-- the run that these events, answers and packets show, the newest first
abbrev pub run_of : List Event → List Answer → List Posted → List NodeStep
run_of events answers packets = reverse (all_did packets events answers)

-- What the run shows of each group is what the group has alone. Requests of the group that were refused for lack of memory are left out, for they change nothing.
abbrev pub AreSeenAlone : Plan → List Event → List Answer → List Posted → Type 0
AreSeenAlone plan events answers packets = (g : Addr) → IsSeenAlone plan (fed_run g (run_of events answers packets)) g

-- at each moment of the run, a request that comes without the token that it needs is refused as Denied, or as Stopped by a node that has stopped
abbrev pub AreDenied : Plan → List Event → List Answer → List Posted → Type 0
AreDenied plan events answers packets = AtEachMoment (IsDenied plan) (run_of events answers packets)

-- the node that an event asks to send to, if it asks for that
abbrev pub goal_of : Event → Option NodeId
goal_of (At a event) = receiver_of event
goal_of (Arrive k) = None

-- how many packets the answer says were sent
abbrev pub sends : Answer → ℕ
sends (AnswerSent (SendingPacket k)) = 1
sends answer = 0

-- if the answer to an event after `count` packets names a packet, this is the next one, and was sent to the node that the event asks to send to
abbrev pub IsNext : List Posted → ℕ → Event → Answer → Type 0
IsNext packets count event (AnswerSent (SendingPacket k)) = (k ≡ count + 1) × (p : Posted) × (packet_numbered packets k ≡ Some p) × (goal_of event ≡ Some p.to)
IsNext packets count event answer = Unit {0}

-- there are as many answers as events, and the packets that the answers name, the first one after `count` others, are all these packets in their order
unfoldable pub AreAnswered : List Posted → ℕ → List Event → List Answer → Type 0
AreAnswered packets count [] [] = count ≡ length packets
AreAnswered packets count (e ∷ events) (a ∷ answers) = IsNext packets count e a × AreAnswered packets (count + sends a) events answers
AreAnswered packets count events answers = ⊥

-- the events take the first cluster to the second, and each is answered with the answer at its place
unfoldable pub AreSteps : ClusterValue → List Event → List Answer → ClusterValue → Type 0
AreSteps v [] [] w = w ≡ v
AreSteps v (e ∷ events) (a ∷ answers) w = (x : ClusterValue) × IsStep v e a x × AreSteps x events answers w
AreSteps v events answers w = ⊥

-- A cluster that is started with the plan gives these answers to these events, and is then v, with these packets. It came to v by the run that they show.
pub record IsRun (plan : Plan) (events : List Event) (answers : List Answer) (packets : List Posted) (v : ClusterValue) : Type 0 where
  pub stepped : AreSteps (new_cluster plan) events answers v
  pub comes : ComesTo plan (run_of events answers packets) v
  pub sent : v.packets ≡ packets
