-- The frame of each packet that is taken is inside its receiver's window.
use Rattle.gb_types.specs.Common.{◌≡◌, ◌≢◌, ℕ, ◌+◌, ◌-◌, ◌<◌, ◌≤◌, inl, inr, true, false, Bool, List, [], ◌∷◌, ◌++◌, length, map, None, refl, sym, ap, subst, ◌∙◌, arith, ◌⊎◌, ◌&&◌, not, filter, nat_eq, nat_lt, nat_le, option_map, if◌then◌else◌, list_any, cases_eq, cases_lt, eqb-true, true≢false, nat_tests, length-append, slice_get_within}
use Rattle.std.specs.FinSet as set
use Rattle.gb_types.specs.declared.{limits.TheConstants.LAST_FRAME, node.NodeId.NodeId, plan.Plan.Plan}
use Rattle.gb_frame.specs.declared.{item.Item.Item}
use Rattle.gb_frame.specs.Common.{Content, is_packet, content_in}
use Rattle.gb_link.specs.Common.{Received, base_of, admission, is_awaited, SendWindow, has_room, is_in_window}
use Rattle.gb_link.specs.declared.receiver.Admission.TheVariants.{First, Seen, Outside}
use Rattle.gb_link.proofs.BaseLemmas.{base_of_from, base_of_below, base_of_lacks}
use Rattle.gb_node.specs.Common.{NodeValue, window_to, receiver_from, is_reached, batch_to, room_to, unless_empty, content_to, pack_content, sent, fate, kind_of, IsTurn, Happened, read, came, packed_for, frames_to, numbered, is_taken, is_acked, is_ack, PastsSay, SendersRun}
use Rattle.gb_node.specs.Past.{ComesTo as NodeComesTo}
use Rattle.gb_node.specs.declared.{answer.NodeAnswer.NodeAnswer, answer.PacketAnswer.TheVariants.Good as TakenGood, answer.Good.Good, answer.Frame.TheVariants.Nothing as NoFrame, answer.Frame.TheVariants.Outside as Beyond, event.NodeEvent.NodeEvent, plan.NodePlan.NodePlan, answer.Sent.TheVariants.Packet as SentPacket, answer.Sent.TheVariants.Nothing, answer.Sent.TheVariants.Refused as SentRefused, step.NodeStep.NodeStep}
use Rattle.gb_node.specs.declared.answer.NodeAnswer.TheVariants.{Reply as Replied, Taken, Sent, Ticked, Halted}
use Rattle.gb_node.specs.declared.event.NodeEvent.TheVariants.{Request as Asked, Packet as Came, Pack, Again, Ack, Tick, Stop}
use Rattle.gb_cluster.specs.ClusterValue.{ClusterValue, node_plan, node_at}
use Rattle.gb_cluster.specs.Run.{ComesTo, past_at, IsSent}
use Rattle.gb_cluster.specs.Links.{PacketsAreHonest, LinksHold, NothingIsOutside}
use Rattle.gb_types.proofs.BoolLemmas.{and_sides, or_left, refuted_by}
use Rattle.gb_cluster.proofs.NodesLemmas.{stays, have_pasts}
use Rattle.gb_cluster.proofs.LinkLemmas.{arrives_honestly, one_content}

-- A frame is packed only if the link has room.

one_read : (key text : List ℕ) → length (map (λ (c : Content). c.items) (read key text)) ≤ 1
one_read key text = by (is_packet key text)
  where
    by : (there : Bool) → length (map (λ (c : Content). c.items) (if there then content_in text ∷ [] else [])) ≤ 1
    by true = omega arith
    by false = omega arith

room_for : (v : NodeValue) (b : NodeId) (text : List ℕ) → Sent (SentPacket text) ≡ Sent (sent v (pack_content v b)) → has_room (window_to v b.number) ≡ true
room_for v b text e = by (is_reached v b) (has_room (window_to v b.number)) refl e
  where
    by : (t u : Bool) → has_room (window_to v b.number) ≡ u → Sent (SentPacket text) ≡ Sent (sent v (option_map (content_to v b (window_to v b.number).next) (if t && u then unless_empty (batch_to (room_to v b) v.table b) else None))) → has_room (window_to v b.number) ≡ true
    by true true is e = is
    by true false is e = absurd (cc)
    by false u is e = absurd (cc)

-- an event packs nothing for a node, or one frame for which there is room
packs : SendersRun → (key : List ℕ) (v : NodeValue) (b : NodeId) (e : NodeEvent) (answer : NodeAnswer) (w : NodeValue) → IsTurn v e answer w
    → (packed_for key b.number e answer ≡ []) ⊎ ((length (packed_for key b.number e answer) ≤ 1) × (has_room (window_to v b.number) ≡ true))
packs sends key v b (Pack x) (Sent (SentPacket text)) w turned = by (nat_eq x.number b.number) refl
  where
    frames : List (List Item)
    frames = map (λ (c : Content). c.items) (read key text)

    by : (same : Bool) → nat_eq x.number b.number ≡ same → ((if same then frames else []) ≡ []) ⊎ ((length (if same then frames else []) ≤ 1) × (has_room (window_to v b.number) ≡ true))
    by true is = inr (one_read key text, ap (λ n. has_room (window_to v n)) (sym (eqb-true x.number b.number is)) ∙ room_for v x text (sends v (Pack x) text w turned).is)
    by false is = inl refl
packs sends key v b (Pack x) (Sent Nothing) w turned = inl refl
packs sends key v b (Pack x) (Sent (SentRefused why)) w turned = inl refl
packs sends key v b (Pack x) (Replied y) w turned = inl refl
packs sends key v b (Pack x) (Taken y) w turned = inl refl
packs sends key v b (Pack x) (Ticked y) w turned = inl refl
packs sends key v b (Pack x) (Halted y) w turned = inl refl
packs sends key v b (Asked r) answer w turned = inl refl
packs sends key v b (Came bytes) answer w turned = inl refl
packs sends key v b (Again x n) answer w turned = inl refl
packs sends key v b (Ack x) answer w turned = inl refl
packs sends key v b Tick answer w turned = inl refl
packs sends key v b Stop answer w turned = inl refl

-- The undone frames are among the last 64.

record AreRecent (done : ℕ → Bool) (fs : List (List Item)) : Type 0 where
  last : length fs ≤ LAST_FRAME
  near : (n : ℕ) → 1 ≤ n → n ≤ length fs → done n ≡ false → length fs ≤ n + 63

-- if there is room for the next frame, each undone frame is among the last 63
undone_near : (done : ℕ → Bool) (next n m : ℕ) (fs : List (List Item)) → is_in_window next (filter (λ u. not (done u.0)) (numbered n fs)) ≡ true → n ≤ m → m < n + length fs → done m ≡ false → next ≤ m + 63
unfolding numbered
undone_near done next n m [] room low high new = absurd (omega (arith, low, high))
undone_near done next n m (f ∷ fs) room low high new =
    by (λ rest above. undone_near done next (n + 1) m fs rest above (omega (arith, high)) new) (done n) refl room
  where
    by : (is_in_window next (filter (λ u. not (done u.0)) (numbered (n + 1) fs)) ≡ true → n + 1 ≤ m → next ≤ m + 63) → (b : Bool) → done n ≡ b
        → is_in_window next (if not b then (n, f) ∷ filter (λ u. not (done u.0)) (numbered (n + 1) fs) else filter (λ u. not (done u.0)) (numbered (n + 1) fs)) ≡ true → next ≤ m + 63
    by later true is room = later room (above (cases_eq n m))
      where
        above : ((n ≡ m) ⊎ (n ≡ m → ⊥)) → n + 1 ≤ m
        above (inl same) = absurd (true≢false (sym is ∙ (ap done same ∙ new)))
        above (inr other) = omega (arith, low, other)
    by later false is room = let le : next ≤ n + 63 = grind (arith, nat_tests, room) in omega (arith, le, low)

-- they still are after a frame is packed
still_recent : (w : SendWindow (List Item)) (fs more : List (List Item)) (done after : ℕ → Bool) → w.next ≡ length fs + 1 → w.undone ≡ filter (λ u. not (done u.0)) (numbered 1 fs) → ((n : ℕ) → after n ≡ false → done n ≡ false) → AreRecent done fs
    → (more ≡ []) ⊎ ((length more ≤ 1) × (has_room w ≡ true)) → AreRecent after (fs ++ more)
still_recent w fs more done after next undone still was (inl none) =
    let long = length-append fs more in
    let empty : length more ≡ 0 = ap length none in
    let few = was.last in
    record { last = omega (arith, long, empty, few); near = λ n from to new. let l = was.near n from (omega (arith, to, long, empty)) (still n new) in omega (arith, l, long, empty) }
still_recent w fs more done after next undone still was (inr (one, room)) =
    let long = length-append fs more in
    let both = and_sides (nat_le w.next LAST_FRAME) (is_in_window w.next w.undone) room in
    let numbered_so : nat_le w.next LAST_FRAME ≡ true = both.0 in
    let few : w.next ≤ LAST_FRAME = grind (arith, nat_tests, numbered_so) in
    let free : is_in_window w.next (filter (λ u. not (done u.0)) (numbered 1 fs)) ≡ true = ap (is_in_window w.next) (sym undone) ∙ both.1 in
    record {
      last = omega (arith, long, one, few, next);
      near = λ n from to new. elim (cases_lt (length fs) n) [
        | inl beyond ↦ omega (arith, beyond, long, one)
        | inr within ↦ let l = undone_near done w.next 1 n fs free from (omega (arith, within)) (still n new) in omega (arith, l, long, one, next)
      ];
    }

-- the undone frames of every node are among its last 64
recent : SendersRun → PastsSay → (plan : NodePlan) (past : List Happened) (v : NodeValue) → NodeComesTo plan past v → (b : NodeId) → AreRecent (λ n. is_acked plan.cluster_key b.number n past) (frames_to plan.cluster_key b.number past)
unfolding NodeComesTo frames_to is_acked
recent sends pasts plan [] v comes b = record { last = omega arith; near = λ n from to new. absurd (omega (arith, from, to)) }
recent sends pasts plan (h ∷ past) v comes b =
    let key = plan.cluster_key in
    let was = pasts plan past comes.0 comes.1 in
    still_recent (window_to comes.0 b.number) (frames_to key b.number past) (packed_for key b.number h.event h.answer) (λ n. is_acked key b.number n past) (λ n. is_acked key b.number n (h ∷ past)) (was.beside.next b) (was.beside.undone b)
    (λ n new. or_left (is_acked key b.number n past) (nat_le n (length (frames_to key b.number past)) && list_any (is_ack b.number n) (came key h.event h.answer)) new)
    (recent sends pasts plan past comes.0 comes.1 b) (packs sends key comes.0 b h.event h.answer v comes.2)

-- A receiver awaits these frames.

-- if all numbers that were not received are among the last 64, each of them is awaited
awaited : (r : Received) (n last : ℕ) → 1 ≤ n → n ≤ last → last ≤ LAST_FRAME → set.contains r n ≡ false → ((m : ℕ) → 1 ≤ m → m ≤ last → set.contains r m ≡ false → last ≤ m + 63) → is_awaited r n ≡ true
awaited r n last from to few lacks near =
    let base_low : base_of r ≤ n = low (cases_lt n (base_of r)) in
    let high = near (base_of r) (base_of_from r) (omega (arith, base_low, to)) (base_of_lacks r) in
    let one : nat_le (base_of r) n ≡ true = grind (arith, nat_tests, base_low) in
    let two : nat_lt n (base_of r + 64) ≡ true = grind (arith, nat_tests, high, to) in
    let three : nat_le n LAST_FRAME ≡ true = grind (arith, nat_tests, to, few) in
    λ i. one i && two i && three i
  where
    low : ((n < base_of r) ⊎ (base_of r ≤ n)) → base_of r ≤ n
    low (inl below) = absurd (true≢false (sym (base_of_below r n from below) ∙ lacks))
    low (inr above) = above

inside_fate : (r : Received) (n : ℕ) → (1 ≤ n → set.contains r n ≡ false → is_awaited r n ≡ true) → fate n r ≢ Beyond
inside_fate r n inside e = by (nat_eq n 0) refl e
  where
    admitted : 1 ≤ n → (c : Bool) → set.contains r n ≡ c → (a : Bool) → is_awaited r n ≡ a → kind_of (if c then Seen else if a then First else Outside) ≡ Beyond → ⊥
    admitted some true there a is e = cc
    admitted some false lacks true is e = cc
    admitted some false lacks false is e = true≢false (sym (inside some lacks) ∙ is)

    by : (b : Bool) → nat_eq n 0 ≡ b → (if b then NoFrame else kind_of (admission r n)) ≡ Beyond → ⊥
    by true is e = cc
    by false is e = admitted (grind (arith, nat_tests, is)) (set.contains r n) refl (is_awaited r n) refl e

-- Every packet that is taken.
module _ (sends : SendersRun) (pasts : PastsSay) (packets : PacketsAreHonest) (links : LinksHold) (plan : Plan) where
  taken_inside : (run : List NodeStep) (before : ClusterValue) (a : NodeId) (bytes : List ℕ) (good : Good) (w : NodeValue) → ComesTo plan run before → a.number < plan.nodes → IsSent before a (Came bytes)
      → IsTurn (node_at before a) (Came bytes) (Taken (TakenGood good)) w → good.frame ≢ Beyond
  taken_inside run before a bytes good w comes inside was_sent turned e =
      let so = arrives_honestly pasts packets plan run before a bytes good w comes inside was_sent turned in
      let key = plan.cluster_key in
      let from = so.honest.from in
      let was = pasts (node_plan plan a) (past_at a run) (node_at before a) (have_pasts plan run before a comes inside) in
      let near = recent sends pasts (node_plan plan from) (past_at from run) (node_at before from) (have_pasts plan run before from comes so.honest.inside) a in
      let said : so.honest.content ≡ so.content = one_content (sym so.honest.text ∙ so.text) in
      let from_is : so.content.from ≡ from.number = sym (ap (λ (x : Content). x.from) said) ∙ so.honest.sender in
      let frame_is : so.content.frame ≡ so.honest.content.frame = sym (ap (λ (x : Content). x.frame) said) in
      let r = receiver_from (node_at before a) from.number in
      let n = so.honest.content.frame in
      let unacked : (m : ℕ) → 1 ≤ m → set.contains r m ≡ false → is_acked key a.number m (past_at from run) ≡ false =
      λ m some lacks. refuted_by (is_acked key a.number m (past_at from run)) (is_taken key from.number m (past_at a run)) ((links.each plan run before comes from a).acknowledged m some) (sym (was.beside.received from m) ∙ lacks) in
      inside_fate r n
      (λ some lacks. let there = slice_get_within (frames_to key a.number (past_at from run)) (n - 1) so.honest.content.items (so.honest.frame (λ z. absurd (omega (arith, some, z)))) in
      awaited r n (length (frames_to key a.number (past_at from run))) some (omega (arith, there, some)) near.last lacks (λ m low high gone. near.near m low high (unacked m low gone)))
      ((λ i. fate (sym frame_is i) (receiver_from (node_at before a) (sym from_is i))) ∙ (sym (ap (λ (g : Good). g.frame) so.good_is) ∙ e))

pub nothing_is_outside : SendersRun → PastsSay → PacketsAreHonest → LinksHold → NothingIsOutside
unfolding ComesTo
nothing_is_outside sends pasts packets links plan run d v comes bytes good event answer =
    let acts = comes.3 in
    let kept = stays plan run comes.0 comes.1 in
    let count = kept.count in
    let placed = acts.placed in
    taken_inside sends pasts packets links plan run comes.0 d.node bytes good acts.node comes.1 (omega (arith, count, placed)) (subst (IsSent comes.0 d.node) event comes.2)
    (subst (λ x. IsTurn (node_at comes.0 d.node) (Came bytes) x acts.node) answer (subst (λ x. IsTurn (node_at comes.0 d.node) x d.answer acts.node) event acts.turn))
