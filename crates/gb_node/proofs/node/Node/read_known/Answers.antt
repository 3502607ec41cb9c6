use Rattle.gb_types.specs.Common.{◌≡◌, true, Ok, sym, ap, subst, ◌∙◌, is_ok}
use Rattle.gb_frame.specs.Common.{reading}
use Rattle.gb_node.specs.NodeStep.{read_at}
use Rattle.gb_node.specs.contracts.node.Node.{the_view}
use Rattle.gb_node.proofs.KnownLemmas.{known_reads, known_here}
use Rattle.gb_node.proofs.node.Node.read_known.Goals as goal

pub decode_known-requires : goal.decode_known-requires
decode_known-requires c =
    subst (λ k. is_ok (reading k c.args.bytes.now) ≡ true) (sym c.key.ensures)
    (known_reads (the_view c.self.inside) c.args.bytes.now (subst (λ v. is_ok (read_at v c.args.bytes.now) ≡ true) (sym c.self.view_is) c.requires))

pub returns : goal.returns
returns c =
    subst (λ v. read_at v c.args.bytes.now ≡ Ok c.decode_known.result) c.self.view_is
    (known_here (the_view c.self.inside) c.args.bytes.now c.decode_known.result (subst (λ v. is_ok (read_at v c.args.bytes.now) ≡ true) (sym c.self.view_is) c.requires) (ap (λ k. reading k c.args.bytes.now) (sym c.key.ensures) ∙ c.decode_known.ensures))
