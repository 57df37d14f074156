-- What holds of texts that are written token by token, and of printed texts.
use Rattle.std.specs.Prelude.{◌≡◌, ℕ, ◌<◌, ◌^◌, List, [], ◌∷◌, ◌++◌, length, Some, slice_get}
use Rattle.scan.specs.Gaps.{IsLastGap}
use Rattle.scan.specs.Lines.{last_line}
use Rattle.ir_tokens.specs.declared.place.Section.{Section}
use Rattle.ir_tokens.specs.Order.{TokensFrom}
use Rattle.ir_tokens.specs.Tokens.{End}
use Rattle.ir_text.specs.Lexemes.{Lexeme, AreLexemes, placed_from, spelled}
use Rattle.ir_core.specs.Checks.{ModuleMeetsChecks}
use Rattle.ir_core.specs.Names.{names_of}
use Rattle.ir_core.specs.declared.function.Function.{Function}
use Rattle.ir_core.specs.declared.module.Module.{Module}
use Rattle.ir_core.specs.declared.module.Entry.TheVariants as entries
use Rattle.ir_tokens.specs.declared.raw.RawModule.{RawModule}
use Rattle.ir_parse.specs.Text.{IsRaw}
use Rattle.ir_text.specs.Forms.{ModuleHasForms}
use Rattle.ir_text.specs.PrintedText.{text_of}
use Rattle.ir_text.specs.CanonicalModule.{WritesModule}

-- lexemes for which this holds, and a gap behind them, are lexed as their tokens
abbrev pub LexemesAreTokens : Type 0
LexemesAreTokens =
    (place : Section) (lexemes : List Lexeme) (gap : List ℕ) → AreLexemes place 1 lexemes gap → IsLastGap gap
    → TokensFrom (spelled lexemes ++ gap) place 0 (placed_from 1 lexemes ++ (last_line (spelled lexemes ++ gap), End) ∷ [])

-- each function of the module has fewer than 2 ^ 64 parameters, blocks and results together
abbrev pub HasFewThings : Module → Type 0
HasFewThings m = (k : ℕ) (f : Function) → slice_get m.entries k ≡ Some (entries.Function f) → length (names_of f) < 2 ^ 64

-- the printed text of a module spells the module, written canonically, if its parts have their forms, it meets its
-- checks, and its functions have few enough things
abbrev pub PrintedTextsSpell : Type 0
PrintedTextsSpell = (m : Module) → ModuleHasForms m → ModuleMeetsChecks m → HasFewThings m → (raw : RawModule) × IsRaw (text_of m) raw × WritesModule raw m
