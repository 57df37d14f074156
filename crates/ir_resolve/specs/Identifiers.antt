-- The identifiers of registers and blocks: their names, and numbers for those without a name. Parameters, blocks and
-- results without a name take one series of numbers from 0, in text order (LangRef, "Identifiers").
use Rattle.std.specs.Prelude.{ℕ, suc, [], ◌∷◌, List, Option, None, Some, slice_get}
use Rattle.ir_core.specs.Names.{Name, names_of, place_of}
use Rattle.ir_core.specs.declared.function.Function.{Function}
use Rattle.ir_core.specs.declared.operand.Register.{Register}
use Rattle.ir_tokens.specs.declared.called.Identifier.{Identifier}
use Rattle.ir_tokens.specs.declared.called.Identifier.TheVariants.{Named, Numbered}

-- the identifiers of things with these names, where the series goes on with this number
abbrev pub identifiers_from : ℕ → List Name → List Identifier
identifiers_from next [] = []
identifiers_from next (Some text ∷ names) = Named text ∷ identifiers_from next names
identifiers_from next (None ∷ names) = Numbered next ∷ identifiers_from (suc next) names

abbrev pub identifiers_of : Function → List Identifier
identifiers_of f = identifiers_from 0 (names_of f)

-- the identifier at the register's index in that list, if the function has the register
abbrev pub identifier_of : Function → Register → Option Identifier
identifier_of f r = slice_get (identifiers_of f) (place_of f r)
