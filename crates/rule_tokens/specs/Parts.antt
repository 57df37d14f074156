-- Grammars over tokens: a part (nonterminal) is the set of the token lists that spell it, and productions are written
-- with these combinators.
use Rattle.std.specs.Prelude.{◌≡◌, List, [], ◌∷◌, ◌++◌, Option, Some, None, codes}
use Rattle.rule_tokens.specs.Tokens.{Token, Mark}

-- a part: which tokens spell it
abbrev pub Part : Type 1
Part = List Token → Type 0

-- this token alone
abbrev pub Is : Token → Part
Is token tokens = tokens ≡ token ∷ []

abbrev pub Comma : Part
Comma = Is (Mark (codes ","))

-- no tokens; and `Never`, which nothing spells
abbrev pub Nothing : Part
Nothing tokens = tokens ≡ []

abbrev pub Never : Part
Never tokens = ⊥

-- sequence: the one part, and behind it the other
infixr 20 ◌⨾◌
abbrev pub ◌⨾◌ : Part → Part → Part
(first ⨾ second) tokens = (front back : List Token) × first front × second back × (tokens ≡ front ++ back)

-- an optional part
abbrev pub Maybe : {A : Type 0} → (A → Part) → Option A → Part
Maybe P None = Nothing
Maybe P (Some x) = P x
