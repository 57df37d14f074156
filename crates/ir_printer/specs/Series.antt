-- The identifiers of a function in text order, and the index of each block's own.
use Rattle.std.specs.Prelude.{◌≡◌, ℕ, suc, ◌+◌, ◌<◌, [], ◌∷◌, List, ◌++◌, length, map, take, slice_index, None, Some}
use Rattle.std.specs.List.{flat_map}
use Rattle.ir_core.specs.Names.{Name, block_names}
use Rattle.ir_tokens.specs.declared.called.Identifier.{Identifier}
use Rattle.ir_tokens.specs.declared.called.Identifier.TheVariants.{Named, Numbered}
use Rattle.ir_resolve.specs.Identifiers.{identifiers_from}
use Rattle.ir_core.specs.declared.function.Block.{Block}
use Rattle.ir_printer.specs.declared.identifier.Identifier.{Identifier as Stored}
use Rattle.ir_printer.specs.declared.identifier.Identifier.TheVariants as stored

-- the identifier in the code, without where its text lies in memory
abbrev pub seen : Stored → Identifier
seen (stored.Named text) = Named text.now
seen (stored.Numbered number) = Numbered number

-- the number with which the series goes on behind things with these names
abbrev pub next_after : ℕ → List Name → ℕ
next_after number [] = number
next_after number (Some text ∷ names) = next_after number names
next_after number (None ∷ names) = next_after (suc number) names

-- The identifiers of things with these names were appended, where the series went on with this number; it goes on with
-- `next`.
pub record Adds (number : ℕ) (names : List Name) (before after : List Stored) (next : ℕ) : Type 0 where
  pub identifiers : map seen after ≡ map seen before ++ identifiers_from number names
  pub goes_on : next ≡ next_after number names

-- the indices of these blocks' own identifiers in text order, where `first` is that of the first block
pub record AreBlockStarts (first : ℕ) (blocks : List Block) (places : List ℕ) : Type 0 where
  pub all : length places ≡ length blocks
  pub each : (b : ℕ) → b < length blocks → slice_index places b ≡ first + length (flat_map block_names (take b blocks))
