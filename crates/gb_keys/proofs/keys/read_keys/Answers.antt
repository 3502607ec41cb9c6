use Rattle.gb_types.specs.Common.{◌≡◌, ◌++◌, [], append-nil, inr, is_some, refl, rules, sym, take, true, ap}
use Rattle.gb_session.proofs.RunLemmas.{Consumes-join}
use Rattle.gb_spelling.specs.Common.{token_of}
use Rattle.gb_keys.specs.Keys.{characters_of}
use Rattle.gb_keys.proofs.KeyLemmas.{handed_on}
use Rattle.gb_keys.proofs.keys.read_keys.Goals as goal

pub returns-then-not-has_feed-clause-fault : goal.returns-then-not-has_feed-clause-fault
returns-then-not-has_feed-clause-fault g c = λ _.
    let first = take c.in-Some.count c.read_line.new.space in
    let spelt : is_some (token_of (characters_of first)) ≡ true = ap is_some c.in_ok-cluster.ensures.key in
    (first, c.in-Some.ensures.bytes, inr (first, [], sym (append-nil first), spelt, (refl, refl)))

pub returns-in_err-admin-clause-fault : goal.returns-in_err-admin-clause-fault
returns-in_err-admin-clause-fault g c =
    let first = take c.in-Some.count c.read_line.new.space in
    let second = take c.in-Some-read_line.count c.read_line-2.new.space in
    let spelt : is_some (token_of (characters_of first)) ≡ true = ap is_some c.in_ok-cluster.ensures.key in
    handed_on c.from_residual-in_err-admin.result c.in_err-admin.field-0.0 _ c.from_residual-in_err-admin.ensures.1
    (λ _. (
      first ++ second,
      Consumes-join (g.R.Read.remaining c.args.reader.now) (g.R.Read.remaining c.read_line.new.reader) (g.R.Read.remaining c.read_line-2.new.reader) first second
          c.in-Some.ensures.bytes c.in-Some-read_line.ensures.bytes,
      inr (first, second, refl, spelt, c.in_err-admin.ensures.fault),
    ))

pub returns-clause-keys : goal.returns-clause-keys
returns-clause-keys g c =
    let first = take c.in-Some.count c.read_line.new.space in
    let second = take c.in-Some-read_line.count c.read_line-2.new.space in (
      first ++ second,
      Consumes-join (g.R.Read.remaining c.args.reader.now) (g.R.Read.remaining c.read_line.new.reader) (g.R.Read.remaining c.read_line-2.new.reader) first second
          c.in-Some.ensures.bytes c.in-Some-read_line.ensures.bytes,
      record {
        first = first;
        second = second;
        lines = refl;
        parted = search rules;
        cluster = c.in_ok-cluster.ensures.key;
        admin = c.in_ok-admin.ensures.key;
      },
    )
