-- Words that may be items of a header or of a call.
use Rattle.std.specs.Prelude.{ℕ, Bool, true, false, not, ◌&&◌, List, [], ◌∷◌, codes}
use Rattle.std.specs.List.{list_any}
use Rattle.std.specs.Str.{bytes_eq}
use Rattle.ir_instructions.specs.declared.word.TypeWord.{TypeWord}
use Rattle.ir_instructions.specs.declared.word.TypeWord.TheVariants as types
use Rattle.ir_instructions.specs.Keywords.{type_in}

-- the names of types that are not supported, which are no items; those of integer types are none either
abbrev pub left_out_types : List (List ℕ)
left_out_types =
    codes "void" ∷ codes "half" ∷ codes "bfloat" ∷ codes "float" ∷ codes "double" ∷ codes "fp128" ∷ codes "x86_fp80" ∷ codes "ppc_fp128"
    ∷ codes "ptr" ∷ codes "label" ∷ codes "token" ∷ codes "metadata" ∷ []

-- the word is no integer type
abbrev pub is_other : TypeWord → Bool
is_other types.Other = true
is_other types.OutOfRange = false
is_other (types.Integer width) = false

-- every other word may be an item
unfoldable pub is_item_word : List ℕ → Bool
is_item_word word = is_other (type_in word) && not (list_any (bytes_eq word) left_out_types)
