-- The keys of tenants and the tokens of members in their maps.
use Rattle.gb_types.specs.Common.{◌≡◌, ℕ, [], ◌∷◌, ◌++◌, ap, true, codes, ◌&&◌, nat_eq, w16, to_be_bytes, and_parts, eqb-true}
use Rattle.gb_types.specs.declared.{address.Addr.Addr, node.NodeId.NodeId}
use Rattle.gb_cap.specs.Hmac.{hmac_of}
use Rattle.gb_schedule.specs.Keys.{tenant_key, member_token}
use Rattle.gb_schedule.specs.declared.keys.GroupMember.{GroupMember}

abbrev pub member_of : Addr → ℕ → GroupMember
member_of address node = record { address = address; node = node }

-- two members with the same numbers are one
pub same_member : (a b : GroupMember) → (nat_eq a.address.tenant b.address.tenant && (nat_eq a.address.group b.address.group && nat_eq a.address.generation b.address.generation)) && nat_eq a.node b.node ≡ true → a ≡ b
same_member a b h =
    let e1 = and_parts (nat_eq a.address.tenant b.address.tenant && (nat_eq a.address.group b.address.group && nat_eq a.address.generation b.address.generation)) (nat_eq a.node b.node) h in
    let e2 = and_parts (nat_eq a.address.tenant b.address.tenant) (nat_eq a.address.group b.address.group && nat_eq a.address.generation b.address.generation) e1.0 in
    let e3 = and_parts (nat_eq a.address.group b.address.group) (nat_eq a.address.generation b.address.generation) e2.1 in
    let t = eqb-true a.address.tenant b.address.tenant e2.0 in
    let g = eqb-true a.address.group b.address.group e3.0 in
    let s = eqb-true a.address.generation b.address.generation e3.1 in
    let n = eqb-true a.node b.node e1.1 in
    λ i. record { address = record { tenant = t i; group = g i; generation = s i }; node = n i }

-- a token's text names its node by the number
pub same_node : (address : Addr) (a b : NodeId) → a.number ≡ b.number → member_token address a ≡ member_token address b
unfolding member_token
same_node address a b e = ap (λ n. hmac_of (tenant_key address.tenant) (codes "M" ++ to_be_bytes w16 address.tenant ++ to_be_bytes w16 address.group ++ n ∷ [])) e
