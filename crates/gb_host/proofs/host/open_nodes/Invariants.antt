use Rattle.gb_types.specs.Common.{◌≡◌, ◌≤◌, ◌++◌, length, vec_len, vec_capacity}
use Rattle.gb_host.specs.Begun.{pasts_begun}
use Rattle.gb_host.specs.HostValue.{AreOpened}
use Rattle.gb_host.proofs.host.open_nodes.Given as goal

abbrev pub invariant-loop-one : goal.invariant-loop-one
invariant-loop-one g l = record {
  split : l.fn.begun.items ≡ l.yielded ++ l.one-iterator.rest.items;
  many : vec_len l.nodes ≡ length l.yielded;
  room : l.plan.cluster.nodes ≤ vec_capacity l.nodes;
  as_many : vec_len l.recorders ≡ length l.yielded;
  space : l.plan.cluster.nodes ≤ vec_capacity l.recorders;
  opened : AreOpened l.plan l.here (length l.yielded) (pasts_begun l.fn.begun.items) l.recorders.items;
}
