use Rattle.gb_types.specs.Common.{◌++◌, ◌∷◌, [], sym, ◌∙◌, refl, take, drop, get_or, suc, ◌+◌, arith, length-take-le}
use Rattle.gb_session.specs.Settled.{fetch_of}
use Rattle.gb_session.proofs.RunLemmas.{IsRun-join}
use Rattle.gb_session.proofs.SettleLemmas.{none_one, found_here, place_more, place_here}
use Rattle.gb_session.proofs.session.find.Goals as goal

pub returns-then-not-is_empty_log-clause-some : goal.returns-then-not-is_empty_log-clause-some
returns-then-not-is_empty_log-clause-some g c = (
  c.places.invariant.requests ++ fetch_of (get_or c.args.places.now c.places.at _) ∷ [],
  c.places.invariant.replies ++ c.fetch-reply.result ∷ [],
  IsRun-join g.A.Answers.answers c.args.answers.now c.places.answers c.fetch-reply.new.answers c.places.invariant.requests (fetch_of (get_or c.args.places.now c.places.at _) ∷ []) c.places.invariant.replies (c.fetch-reply.result ∷ []) c.places.invariant.runs
      (c.fetch-reply.new.answers, c.fetch-reply.ensures, refl),
  found_here c.args.places.now (take c.places.at c.args.places.now) (drop (suc c.places.at) c.args.places.now) c.places.at (get_or c.args.places.now c.places.at _) c.places.invariant.requests c.places.invariant.replies c.fetch-reply.result c.places.invariant.none
      (place_here c.args.places.now c.places.at _ c.places-test.true) (sym (length-take-le c.places.at c.args.places.now c.places.invariant.within)) (sym c.is_empty_log.ensures ∙ c.if-not-is_empty_log.true),
)

pub places-preserved-else-not-is_empty_log : goal.places-preserved-else-not-is_empty_log
places-preserved-else-not-is_empty_log g c = record {
  within = omega arith;
  requests = c.places.invariant.requests ++ fetch_of (get_or c.args.places.now c.places.at _) ∷ [];
  replies = c.places.invariant.replies ++ c.fetch-reply.result ∷ [];
  runs = IsRun-join g.A.Answers.answers c.args.answers.now c.places.answers c.fetch-reply.new.answers c.places.invariant.requests (fetch_of (get_or c.args.places.now c.places.at _) ∷ []) c.places.invariant.replies (c.fetch-reply.result ∷ []) c.places.invariant.runs
      (c.fetch-reply.new.answers, c.fetch-reply.ensures, refl);
  none = none_one (take c.places.at c.args.places.now) (take (c.places.at + 1) c.args.places.now) (get_or c.args.places.now c.places.at _) c.places.invariant.requests c.places.invariant.replies c.fetch-reply.result c.places.invariant.none
      (place_more c.args.places.now c.places.at _ c.places-test.true) (sym c.is_empty_log.ensures ∙ c.if-not-is_empty_log.false);
}
