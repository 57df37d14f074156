use Rattle.rule_parse.proofs.Common.{◌≡◌, ◌++◌, drop, seen, limited_to, limited}
use Rattle.rule_parse.proofs.excess.limited.Given as goal

-- the tokens that are kept, with those that the limit leaves of the rest, are what it leaves of all
abbrev pub invariant-loop-token : goal.invariant-loop-token
invariant-loop-token l =
    seen l.kept.items ++ limited_to l.room l.begins (seen (drop l.token-index l.tokens)) ≡ limited (seen l.tokens)
