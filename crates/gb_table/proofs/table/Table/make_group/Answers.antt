use Rattle.gb_types.specs.Common.{◌≡◌, ◌<◌, false, ap, sym, subst, ◌∙◌, inl, inr}
use Rattle.gb_types.specs.declared.{reply.Reply.TheVariants.Done, spec.TenantRow.TenantRow}
use Rattle.gb_rules.specs.Common.{takes_memory, is_over_limits, is_over}
use Rattle.gb_rules.specs.declared.reserve.Reserve.{Reserve}
use Rattle.gb_slot.specs.Common.{new_slot}
use Rattle.gb_table.specs.GroupsValue.{GroupsValue}
use Rattle.gb_table.specs.OneGroup.{group_in}
use Rattle.gb_table.specs.SlotsValue.{AreNamed}
use Rattle.gb_table.specs.TableValue.{TableValue}
use Rattle.gb_table.specs.OwnNode.{AreOwn}
use Rattle.gb_table.specs.Within.{names_of, IsWithin}
use Rattle.gb_table.proofs.TableMadeLemmas.{within_made, few_made}
use Rattle.gb_table.proofs.NamedLemmas.{named_made}
use Rattle.gb_table.proofs.OwnNodeLemmas.{at_made}
use Rattle.gb_table.proofs.RequestLemmas.{make_reply, make_should, not_made, not_some}
use Rattle.gb_table.proofs.TenantLemmas.{found_within, make_done, tenant_above, within_limits}
use Rattle.gb_table.proofs.table.Table.make_group.Goals as goal
use Rattle.gb_table.proofs.table.Table.make_group.Goals.{in-Ok, in-Err}

pub returns-in_default-answer_make : goal.returns-in_default-answer_make
returns-in_default-answer_make c =
    let T : TableValue = record { me = c.self.inside.me; nodes = c.self.inside.nodes; version = c.self.inside.version; places = c.self.inside.places; admin_key = c.self.inside.admin_key; tenants = c.self.inside.tenants; groups = c.self.inside.groups } in
    record {
      reply = inr (make_should T c.args.self.now c.args.addr c.args.spec.now c.in-Some.row.now c.was_made.result c.others_living.result c.of-reserve.result c.answer_make.result c.self.view_is c.in-Some.ensures c.was_made.ensures c.others_living.ensures c.of-reserve.ensures c.answer_make.ensures);
      state = not_made c.args.noticed.now c.args.addr c.args.spec.now c.answer_make.result c.args.self.now c.in_default-answer_make.not-Done;
    }

pub make-requires : goal.make-requires
make-requires c =
    let row = c.in-Some.row.now in
    let d = make_done c.self.inside.version c.self.inside.nodes c.self.inside.me.number c.args.addr c.was_made.result c.others_living.result c.args.spec.now c.of-reserve.result c.in-Done.ensures in
    let below = subst (λ (r : Reserve). c.args.addr.group < r.groups) c.of-reserve.ensures d.below in
    record {
      limits = within_limits row c.args.spec.now (found_within (λ (r : TenantRow). is_over_limits r ≡ false) c.args.addr.tenant c.self.inside.tenants row c.self.invariant.0.limits (sym c.in-Some.ensures)) (subst (λ (r : Reserve). is_over r c.args.spec.now ≡ false) c.of-reserve.ensures d.within);
      member = d.member;
      can = record {
        tenant = tenant_above c.self.inside.tenants c.args.addr.tenant row c.self.invariant.0.limits (sym c.in-Some.ensures);
        fresh = not_some (group_in c.args.addr c.self.inside.groups) (sym c.was_made.ensures ∙ d.fresh);
        free = subst (λ n. n < _) c.others_living.ensures d.few;
      };
      few = few_made c.self.inside.places c.self.inside.tenants _ (within_made c.self.inside.places c.self.inside.tenants c.self.inside.groups.rooms c.args.addr row c.self.invariant.0 c.in-Some.ensures below);
    }

pub invariant_of-self : goal.invariant_of-self
invariant_of-self c =
    let row = c.in-Some.row.now in
    let d = make_done c.self.inside.version c.self.inside.nodes c.self.inside.me.number c.args.addr c.was_made.result c.others_living.result c.args.spec.now c.of-reserve.result c.in-Done.ensures in
    let below = subst (λ (r : Reserve). c.args.addr.group < r.groups) c.of-reserve.ensures d.below in
    let groups = c.self.inside.groups in
    elim c.match-make.branch [
      | in-Ok w ↦ (
        subst (λ (g : GroupsValue). IsWithin c.self.inside.places c.self.inside.tenants (names_of g.rooms)) (sym w.in-Ok.ensures.made) (within_made c.self.inside.places c.self.inside.tenants groups.rooms c.args.addr row c.self.invariant.0 c.in-Some.ensures below),
        c.self.invariant.1,
        subst (λ (g : GroupsValue). AreOwn c.self.inside.me c.self.inside.version g.rows) (sym w.in-Ok.ensures.made) (at_made c.self.inside.me c.self.inside.version c.args.addr c.args.spec.now c.args.noticed.now groups c.self.invariant.2),
        subst (λ (g : GroupsValue). AreNamed c.self.inside.version g.rows) (sym w.in-Ok.ensures.made) (named_made c.self.inside.version c.args.addr (new_slot c.args.spec.now c.self.inside.me c.args.noticed.now) groups d.named c.self.invariant.3),
      )
      | in-Err w ↦ (
        subst (λ (g : GroupsValue). IsWithin c.self.inside.places c.self.inside.tenants (names_of g.rooms)) (sym w.in-Err.ensures.err) c.self.invariant.0,
        c.self.invariant.1,
        subst (λ (g : GroupsValue). AreOwn c.self.inside.me c.self.inside.version g.rows) (sym w.in-Err.ensures.err) c.self.invariant.2,
        subst (λ (g : GroupsValue). AreNamed c.self.inside.version g.rows) (sym w.in-Err.ensures.err) c.self.invariant.3,
      )
    ]

pub returns-clause-reply : goal.returns-clause-reply
returns-clause-reply c =
    let T : TableValue = record { me = c.self.inside.me; nodes = c.self.inside.nodes; version = c.self.inside.version; places = c.self.inside.places; admin_key = c.self.inside.admin_key; tenants = c.self.inside.tenants; groups = c.self.inside.groups } in
    let e : Done ≡ make_reply c.args.addr c.args.spec.now c.args.self.now = make_should T c.args.self.now c.args.addr c.args.spec.now c.in-Some.row.now c.was_made.result c.others_living.result c.of-reserve.result Done c.self.view_is c.in-Some.ensures c.was_made.ensures c.others_living.ensures c.of-reserve.ensures c.in-Done.ensures in
    elim c.match-make.branch [
      | in-Ok w ↦ inr (w.result-is ∙ e)
      | in-Err w ↦ inl (w.result-is, ap takes_memory (sym e))
    ]
