-- The versions of the language of rules, and the numbers that they are written as.
use Rattle.std.specs.Prelude.{ℕ, ◌==◌, if◌then◌else◌, List, [], ◌∷◌, find, Option, None}
use Rattle.scan.specs.Bytes.{are_digits}
use Rattle.rule_tokens.specs.declared.version.Version.{Version}
use Rattle.rule_tokens.specs.declared.version.Version.TheVariants.{One, Two}
use Rattle.rule_tokens.specs.Numbers.{decimal_value}

abbrev pub version_number : Version → ℕ
version_number One = 1
version_number Two = 2

abbrev pub versions : List Version
versions = One ∷ Two ∷ []

-- the version whose number the digits spell
unfoldable pub version_in : List ℕ → Option Version
version_in text = if are_digits text then find (λ version. decimal_value text == version_number version) versions else None
