-- What the tokens before a token tell the lexer of it, and where the word `abs` is an opcode and not the function of
-- terms.
use Rattle.std.specs.Prelude.{ℕ, Bool, true, false, not, ◌&&◌, ◌||◌, if◌then◌else◌, List, Option, Some, None, codes}
use Rattle.std.specs.Str.{bytes_eq}
use Rattle.scan.specs.declared.rule_token.RuleKind.{RuleKind}
use Rattle.scan.specs.declared.rule_token.RuleKind.TheVariants as kinds
use Rattle.scan.specs.RuleTokens.{ends_primary}
use Rattle.rule_tokens.specs.declared.context.Before.{Before}
use Rattle.rule_tokens.specs.declared.context.Before.TheVariants.{VersionHead, Equals, Other}
use Rattle.rule_tokens.specs.declared.context.Context.{Context}
use Rattle.rule_tokens.specs.declared.version.Version.{Version}
use Rattle.rule_tokens.specs.declared.version.Version.TheVariants.{One, Two}
use Rattle.rule_tokens.specs.Versions.{version_in}

-- the context of a text's first token
abbrev pub at_start : Context
at_start = record { operator = false; version = One; in_target = false; before = Other }

-- what the token directly behind needs to know of this one
abbrev pub before_of : RuleKind → List ℕ → Before
before_of kinds.Head bytes = if bytes_eq bytes (codes "Version:") then VersionHead else Other
before_of kinds.Mark bytes = if bytes_eq bytes (codes "=") then Equals else Other
before_of kind bytes = Other

-- the version of the file where a number behind `Version:` says one, known or not
abbrev pub or_first : Option Version → Version
or_first None = One
or_first (Some version) = version

abbrev pub version_told : Before → Version → RuleKind → List ℕ → Version
version_told VersionHead version kinds.Number bytes = or_first (version_in bytes)
version_told before version kind bytes = version

abbrev pub version_behind : Context → RuleKind → List ℕ → Version
version_behind c kind bytes = version_told c.before c.version kind bytes

-- behind `=>` the target begins
abbrev pub is_arrow : RuleKind → Bool
is_arrow kinds.Arrow = true
is_arrow kind = false

-- the context of the token behind one of this kind with these bytes
abbrev pub context_behind : Context → RuleKind → List ℕ → Context
context_behind c kind bytes = record {
  operator = ends_primary kind bytes;
  version = version_behind c kind bytes;
  in_target = c.in_target || is_arrow kind;
  before = before_of kind bytes;
}

-- the context of the token behind the name of a rule
abbrev pub behind_name : Context → Context
behind_name c = record at_start { version = c.version }

-- From version 2 on `abs` directly behind `=` is an opcode, but for `abs(` in a target, which calls the function of
-- terms.
abbrev pub is_opcode_place : Version → Before → Bool → Bool
is_opcode_place Two Equals calls = not calls
is_opcode_place version before calls = false

abbrev pub is_opcode : Context → Bool → List ℕ → Bool
is_opcode c called word = is_opcode_place c.version c.before (c.in_target && called) && bytes_eq word (codes "abs")
