-- The tokens that spell a type.
use Rattle.std.specs.Prelude.{ℕ, List}
use Rattle.rule_tokens.specs.Numbers.{IsWrittenType}
use Rattle.rule_tokens.specs.Parts.{Part, Is}
use Rattle.rule_tokens.specs.Tokens.{Word}

-- type
abbrev pub SpellsType : ℕ → Part
SpellsType width tokens = (written : List ℕ) × IsWrittenType written width × Is (Word written) tokens
