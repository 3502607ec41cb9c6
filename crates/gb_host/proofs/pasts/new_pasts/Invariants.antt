use Rattle.gb_types.specs.Common.{◌≡◌, ◌≤◌, vec_len, vec_capacity}
use Rattle.gb_host.specs.Pasts.{AreBlank}
use Rattle.gb_host.proofs.pasts.new_pasts.Given as goal

abbrev pub invariant-loop-number : goal.invariant-loop-number
invariant-loop-number l = (vec_len l.pasts ≡ l._number) × (l.nodes ≤ vec_capacity l.pasts) × AreBlank l.pasts.items
