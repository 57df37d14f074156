-- The combinators of the grammar. A part (a production) relates the tokens that begin with it to those behind it.
use Rattle.std.specs.Prelude.{◌≡◌, ℕ, List, [], ◌∷◌, Option, Some, None}
use Rattle.ir_tokens.specs.Tokens.{Token, Placed, Mark}
use Rattle.ir_instructions.specs.Punctuation as marks

-- the tokens begin with the part, and behind it is the rest
abbrev pub Part : Type 1
Part = (tokens rest : List Placed) → Type 0

-- this token on this line, or on any line
abbrev pub IsOn : ℕ → Token → Part
IsOn line token tokens rest = tokens ≡ (line, token) ∷ rest

abbrev pub Is : Token → Part
Is token tokens rest = (line : ℕ) × IsOn line token tokens rest

-- the empty part, and the one that nothing spells
abbrev pub Nothing : Part
Nothing tokens rest = tokens ≡ rest

abbrev pub Never : Part
Never tokens rest = ⊥

-- one part and then another
infixr 20 ◌⨾◌
abbrev pub ◌⨾◌ : Part → Part → Part
(first ⨾ second) tokens rest = (between : List Placed) × first tokens between × second between rest

-- an optional part
abbrev pub Maybe : {A : Type 0} → (A → Part) → Option A → Part
Maybe P None = Nothing
Maybe P (Some x) = P x

-- a part for each item of a list, in order
abbrev pub Each : {A : Type 0} → (A → Part) → List A → Part
Each P [] = Nothing
Each P (x ∷ xs) = P x ⨾ Each P xs

-- a part for each item of a list that is not empty, with a `,` between them
abbrev pub Comma : Part
Comma = Is (Mark marks.comma)

abbrev pub Separated : {A : Type 0} → (A → Part) → List A → Part
Separated P [] = Never
Separated P (x ∷ xs) = P x ⨾ Each (λ y. Comma ⨾ P y) xs

-- a part, repeated any number of times
abbrev pub Repeated : Part → Part
Repeated P tokens rest = (times : List (Unit {0})) × Each (λ once. P) times tokens rest
