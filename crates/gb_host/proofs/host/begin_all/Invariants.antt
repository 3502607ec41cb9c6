use Rattle.gb_types.specs.Common.{◌≡◌, ◌≤◌, ◌++◌, length, vec_len, vec_capacity}
use Rattle.gb_host.specs.Begun.{AreBegunTo, pasts_begun}
use Rattle.gb_host.proofs.host.begin_all.Given as goal

abbrev pub invariant-loop-past : goal.invariant-loop-past
invariant-loop-past l = record {
  split : l.fn.pasts.items ≡ l.yielded ++ l.past-iterator.rest.items;
  count : length l.yielded ≡ l.number;
  many : vec_len l.begun ≡ l.number;
  room : l.plan.cluster.nodes ≤ vec_capacity l.begun;
  begun : AreBegunTo l.plan l.number l.begun.items;
  pasts : pasts_begun l.begun.items ≡ l.yielded;
}
