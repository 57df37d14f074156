-- Viable prefixes: the lists of tokens with which some text of the grammar of modules begins. Nothing but its
-- productions decides that.
use Rattle.std.specs.Prelude.{ℕ, List, [], ◌∷◌, ◌++◌}
use Rattle.ir_tokens.specs.Tokens.{Token, Placed, Group}
use Rattle.ir_tokens.specs.declared.raw.RawModule.{RawModule}
use Rattle.ir_parse.specs.Grammar.{SpellsModule}

-- the tokens are a viable prefix: some tokens behind them make them the tokens of a module
abbrev pub Fits : List Placed → Type 0
Fits front = (more : List Placed) × (m : RawModule) × SpellsModule m (front ++ more)

-- a line on which no token of a text stands, since its lines count from 1
abbrev pub own_line : ℕ
own_line = 0

-- with the token behind them, on a line of its own, they are a viable prefix
abbrev pub FitsBehind : List Placed → Token → Type 0
FitsBehind front token = Fits (front ++ (own_line, token) ∷ [])

-- a group of attributes fits, as it does where items may stand
abbrev pub AttributesFit : List Placed → Type 0
AttributesFit front = (text : List ℕ) × FitsBehind front (Group text)
