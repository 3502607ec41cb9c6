use Rattle.gb_types.specs.Common.{◌≡◌, ◌≤◌, ℕ, get_or, refl, subst, arith, MatchOption}
use Rattle.gb_table.specs.SlotsValue.{row_at}
use Rattle.gb_table.specs.GroupsValue.{GroupsValue}
use Rattle.gb_table.specs.Places.{groups_of}
use Rattle.gb_table.specs.Members.{has_member, IsNextMember}
use Rattle.gb_table.proofs.MemberLemmas.{next_member}
use Rattle.gb_table.proofs.groups.Groups.next_with.Goals as goal

pub returns : goal.returns
returns c =
    let who = c.args.who.number in
    let rows = (groups_of c.self.inside).rows in
    subst (λ (v : GroupsValue). MatchOption c.next.result ((p : ℕ) → c.args.from ≤ p → has_member who (row_at v.rows p).slot ≡ 0) (λ q. IsNextMember who c.args.from v.rows q)) c.self.view_is
    (next_member c.index.result who c.args.from c.next.result rows c.self.inside.memberships (get_or c.self.inside.memberships c.index.result c.index-self-index.result) c.index-self-index.result (c.self.invariant.1.index.each 0 (omega arith)).few c.self.invariant.1.members c.index.ensures.value c.args.who.below refl c.next.ensures)
