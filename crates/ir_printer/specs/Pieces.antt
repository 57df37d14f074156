-- The pieces of lines.
use Rattle.std.specs.Prelude.{List, [], ◌∷◌, ◌++◌, ℕ}
use Rattle.ir_core.specs.declared.function.Function.{Function}
use Rattle.ir_text.specs.PrintedText.{type_text, operand_text, typed_text, flags_text, block_name_text, target_text}
use Rattle.ir_text.specs.NumberText.{number_text}
use Rattle.ir_printer.specs.declared.piece.Piece.{Piece}
use Rattle.ir_printer.specs.declared.piece.Piece.TheVariants as pieces

abbrev pub piece_text : Function → Piece → List ℕ
piece_text f (pieces.Text text) = text.now
piece_text f (pieces.Type width) = type_text width
piece_text f (pieces.Number n) = number_text n
piece_text f (pieces.Operand a) = operand_text f a
piece_text f (pieces.Typed width a) = typed_text f width a
piece_text f (pieces.Flags flags) = flags_text flags
piece_text f (pieces.Block b) = block_name_text f b
piece_text f (pieces.Target b) = target_text f b

-- pieces, one behind another, behind a text
abbrev pub text_with : Function → List ℕ → List Piece → List ℕ
text_with f text [] = text
text_with f text (piece ∷ pieces) = text_with f (text ++ piece_text f piece) pieces

abbrev pub pieces_text : Function → List Piece → List ℕ
pieces_text f [] = []
pieces_text f (piece ∷ pieces) = text_with f (piece_text f piece) pieces
