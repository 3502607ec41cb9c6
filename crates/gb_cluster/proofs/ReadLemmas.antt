-- The node that a packet was sent to reads it.
use Rattle.gb_types.specs.Common.{◌≡◌, ℕ, ◌<◌, true, List, [], ◌∷◌, length, Some, Ok, Err, sym, ap, subst, ◌∙◌, arith, Result, ◌&&◌, is_ok, nat_lt, if◌then◌else◌, eq-eqb, lt-ltb, slice_get-get_or}
use Rattle.gb_frame.specs.declared.{fault.PacketFault.PacketFault, fault.PacketFault.TheVariants.Node}
use Rattle.gb_frame.specs.Common.{Content, reading}
use Rattle.gb_node.specs.Common.{NodeValue, new_node, is_here, if_here, read_at, read, PastsSay}
use Rattle.gb_node.proofs.PacketLemmas.{packet_in, read_in}
use Rattle.gb_cluster.specs.ClusterValue.{node_plan, node_at}
use Rattle.gb_cluster.specs.Run.{past_at}
use Rattle.gb_cluster.specs.Links.{PacketsAreHonest, PacketsAreRead}
use Rattle.gb_cluster.proofs.NodesLemmas.{stays, have_pasts}

pub read_under : (key bytes : List ℕ) (c : Content) → read key bytes ≡ c ∷ [] → reading key bytes ≡ Ok c
read_under key bytes c e = by (reading key bytes) (sym (read_in key bytes) ∙ e)
  where
    by : (r : Result Content PacketFault) → packet_in r ≡ c ∷ [] → r ≡ Ok c
    by (Ok d) e = let same : d ≡ c = cc in ap Ok same
    by (Err fault) e = absurd (cc)

-- a node reads the packets under its key that are for it, from nodes of the cluster
reads : (v : NodeValue) (bytes : List ℕ) (c : Content) → reading v.key bytes ≡ Ok c → c.to ≡ v.table.me.number → c.from < v.table.nodes → is_ok (read_at v bytes) ≡ true
reads v bytes c is to from =
    let here : is_here v c ≡ true = ap (λ b. b && nat_lt c.from v.table.nodes) (eq-eqb c.to v.table.me.number to) ∙ lt-ltb c.from v.table.nodes from in
    ap (λ r. is_ok (if_here v r)) is ∙ ap (λ b. is_ok (if b then Ok c else Err Node)) here

pub all_read : PacketsAreHonest → PastsSay → PacketsAreRead
all_read honest pasts plan run v comes k p w at there =
    let h = honest plan run v comes k p at in
    let count = (stays plan run v comes).count in
    let reaches = h.reaches in
    let within : p.to.number < length v.nodes = omega (arith, count, reaches) in
    let found = slice_get-get_or v.nodes p.to.number (new_node (node_plan v.plan p.to)) within in
    let is : node_at v p.to ≡ w = let same : Some (node_at v p.to) ≡ Some w = sym found ∙ there in cc in
    let was = pasts (node_plan plan p.to) (past_at p.to run) (node_at v p.to) (have_pasts plan run v p.to comes reaches) in
    let nodes = was.beside.nodes in
    let sender = h.sender in
    let inside = h.inside in
    subst (λ u. is_ok (read_at u p.text) ≡ true) is
    (reads (node_at v p.to) p.text h.content (ap (λ key. reading key p.text) was.beside.key ∙ read_under plan.cluster_key p.text h.content h.text) (h.goal ∙ ap (λ a. a.number) (sym was.beside.me)) (omega (arith, nodes, sender, inside)))
