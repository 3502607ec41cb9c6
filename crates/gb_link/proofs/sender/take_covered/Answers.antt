use Rattle.gb_types.specs.Common.{sym, refl, arith, ◌∙◌}
use Rattle.std.specs.VecDeque.{deque_len}
use Rattle.gb_link.specs.Ack.{covers}
use Rattle.gb_link.proofs.FirstLemmas.{no_position, removed_first}
use Rattle.gb_link.proofs.WindowLemmas.{no_more}
use Rattle.gb_link.proofs.sender.take_covered.Goals as goal

pub returns-in-None : goal.returns-in-None
returns-in-None g c =
    let none = no_position (λ u. covers c.args.base c.args.mask u.0) c.args.undone.now.items (sym c.in-None.is ∙ c.first_covered.ensures) in
    record { handed_out = sym none.0; left = sym none.1; len = omega arith; capacity = refl }

pub returns-in-Some : goal.returns-in-Some
returns-in-Some g c =
    let first =
    removed_first (λ u. covers c.args.base c.args.mask u.0) c.args.undone.now.items c.remove.new.self.items c.args.undone.now.len c.in-Some.place c.remove.result c.args.undone.now.ok.0
    (sym c.in-Some.is ∙ c.first_covered.ensures) c.remove.ensures.succeeds c.remove.ensures.items in
    record { handed_out = first.0; left = first.1; len = no_more (λ q. deque_len q) c.remove.result c.remove.new.self c.args.undone.now c.remove.ensures.len c.remove.ensures.unchanged; capacity = c.remove.ensures.capacity }
