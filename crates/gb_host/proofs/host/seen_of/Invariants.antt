use Rattle.gb_types.specs.Common.{◌≡◌, ◌≤◌, ◌++◌, drop, length, vec_len, vec_capacity}
use Rattle.gb_host.specs.Begun.{AreBegun, pasts_begun}
use Rattle.gb_host.specs.Happened.{ArePastsTo}
use Rattle.gb_host.proofs.host.seen_of.Given as goal

abbrev pub invariant-loop-one : goal.invariant-loop-one
invariant-loop-one l = record {
  many : vec_len l.seen ≡ l.one-index;
  room : length l.begun ≤ vec_capacity l.seen;
  split : pasts_begun l.begun ≡ l.seen.items ++ pasts_begun (drop l.one-index l.begun);
  pasts : ArePastsTo l.plan l.one-index l.seen.items;
}
