-- A part that may be repeated behind a mark, as `f && f && f`, read from left to right.
use Rattle.std.specs.Prelude.{ℕ, zero, suc, Bool, false, if◌then◌else◌, List, ◌∷◌, length, drop, Ok}
use Rattle.std.specs.Str.{bytes_eq}
use Rattle.rule_tokens.specs.Steps.{◌>>=◌}
use Rattle.rule_tokens.specs.PartReaders.{Read}
use Rattle.rule_tokens.specs.Tokens.{Token, Mark}

-- the mark is next
abbrev pub next_is : List ℕ → List Token → Bool
next_is mark (Mark found ∷ tokens) = bytes_eq found mark
next_is mark tokens = false

-- A parser of a part, given what was read before it: all that is read then, and the tokens that are left.
abbrev pub Reader : Type 0 → Type 0
Reader A = A → List Token → Read A

-- As long as the mark is next, a part behind it is read. At most n are; as many as there are tokens is always enough.
unfoldable pub chain_of : {A : Type 0} → ℕ → List ℕ → Reader A → Reader A
chain_of zero mark part before tokens = Ok (before, tokens)
chain_of (suc n) mark part before tokens =
    if next_is mark tokens then (part before (drop 1 tokens) >>= λ x. chain_of n mark part x.0 x.1) else Ok (before, tokens)

abbrev pub chain_at : {A : Type 0} → List ℕ → Reader A → Reader A
chain_at mark part before tokens = chain_of (length tokens) mark part before tokens
