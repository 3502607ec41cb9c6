use Rattle.gb_types.specs.Common.{◌≡◌, map, drop, fold, Some}
use Rattle.gb_client.specs.Secrets.{with_next, no_secrets}
use Rattle.gb_client.proofs.secrets.add_lines.Given as goal

abbrev pub invariant-loop-line : goal.invariant-loop-line
invariant-loop-line l = fold with_next l.found (map (λ line. line.now) (drop l.line-index l.lines)) ≡ fold with_next (Some no_secrets) (map (λ line. line.now) l.lines)
