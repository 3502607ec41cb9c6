use Rattle.gb_types.specs.Common.{rules, ◌≡◌, length}
use Rattle.gb_keys.proofs.KeyLemmas.{digits_spell}
use Rattle.gb_keys.proofs.keys.key_of.Goals as goal

pub unwrap-requires : goal.unwrap-requires
unwrap-requires c =
    let long : length c.characters-digits.result.now ≡ 64 = search rules in
    rw c.read_token.ensures (digits_spell c.characters-digits.result.now long c.in_default.ensures.none)
