-- The grammar of items of headers and of calls: attributes, linkage and the like (LLVM Language Reference, "Functions",
-- "Parameter Attributes").
use Rattle.std.specs.Prelude.{◌≡◌, ℕ, ◌==◌, false, List, ◌∷◌, ◌++◌, IsTrue}
use Rattle.ir_tokens.specs.Tokens.{Placed, KeptGroup, Word, Number, Group, Quoted, Mark}
use Rattle.ir_instructions.specs.Parts.{Is, ◌⨾◌}
use Rattle.ir_instructions.specs.Items.{is_item_word}
use Rattle.ir_instructions.specs.Punctuation as marks

-- item := WORD | WORD KEPTGROUP | NUMBER | GROUP | QUOTED ['=' QUOTED]
pub data SpellsItem (item : List ℕ) (tokens rest : List Placed) : Type 0 where
  of_word : IsTrue (is_item_word item) → Is (Word item) tokens rest → SpellsItem item tokens rest
  of_word_and_group : (name group : List ℕ) → IsTrue (is_item_word name) → item ≡ name ++ group
      → (Is (Word name) ⨾ Is (KeptGroup group)) tokens rest → SpellsItem item tokens rest
  of_number : Is (Number item) tokens rest → SpellsItem item tokens rest
  of_group : Is (Group item) tokens rest → SpellsItem item tokens rest
  of_quoted : Is (Quoted item) tokens rest → SpellsItem item tokens rest
  of_key_and_value : (key value : List ℕ) → item ≡ key ++ marks.equals ∷ value
      → (Is (Quoted key) ⨾ Is (Mark marks.equals) ⨾ Is (Quoted value)) tokens rest → SpellsItem item tokens rest

-- neither a kept group nor a `=` is next, with which the item before would go on
abbrev pub MayFollowItem : List Placed → Type 0
MayFollowItem ((line, KeptGroup group) ∷ rest) = ⊥
MayFollowItem ((line, Mark mark) ∷ rest) = (mark == marks.equals) ≡ false
MayFollowItem tokens = Unit {0}
