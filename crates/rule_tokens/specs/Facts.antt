-- The words of the members of preconditions that speak of the bits of a register.
use Rattle.std.specs.Prelude.{ℕ, if◌then◌else◌, List, Option, Some, None, codes}
use Rattle.std.specs.Str.{bytes_eq}
use Rattle.rule_tokens.specs.declared.fact.BitFact.{BitFact}
use Rattle.rule_tokens.specs.declared.fact.BitFact.TheVariants.{MaskedValueIsZero, IsKnownNonZero}
use Rattle.rule_tokens.specs.declared.version.Version.{Version}
use Rattle.rule_tokens.specs.declared.version.Version.TheVariants.{One, Two}

-- the fact that a word is: from version 2 on two words are told apart from all others
unfoldable pub fact_in : Version → List ℕ → Option BitFact
fact_in One word = None
fact_in Two word =
    if bytes_eq word (codes "MaskedValueIsZero") then Some MaskedValueIsZero
    else (if bytes_eq word (codes "isKnownNonZero") then Some IsKnownNonZero else None)
