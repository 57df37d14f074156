use Rattle.ir_printer.proofs.Common.{◌≡◌, ℕ, List, [], ◌∷◌, ◌++◌, ap, sym, ◌∙◌, append_assoc, arith, refl, flat_map, take_all, Function, Piece, piece_text, text_with, pieces_text}
use Rattle.std.proofs.Common.{append-nil}
use Rattle.ir_printer.proofs.Printed.{each_more}
use Rattle.ir_printer.proofs.piece.push_pieces.Goals as goal

text_with-flat : (f : Function) (text : List ℕ) (pieces : List Piece) → text ++ flat_map (piece_text f) pieces ≡ text_with f text pieces
text_with-flat f text [] = append-nil text
text_with-flat f text (piece ∷ pieces) = sym (append_assoc text (piece_text f piece) (flat_map (piece_text f) pieces)) ∙ text_with-flat f (text ++ piece_text f piece) pieces

flat : (f : Function) (pieces : List Piece) → flat_map (piece_text f) pieces ≡ pieces_text f pieces
flat f [] = refl
flat f (piece ∷ pieces) = text_with-flat f (piece_text f piece) pieces

pub returns : goal.returns
returns c =
    let f = c.args.called.now.function.now in
    let all = take_all c.loop-piece.piece-index c.args.pieces.now (omega arith) in
    c.loop-piece.invariant ∙ ap (λ t. c.args.out.now.items ++ t) (ap (flat_map (piece_text f)) all ∙ flat f c.args.pieces.now)

pub loop-piece-preserved : goal.loop-piece-preserved
loop-piece-preserved c =
    each_more (piece_text c.args.called.now.function.now) c.args.out.now.items _ _ c.args.pieces.now c.loop-piece.piece-index c.piece-item.result c.loop-piece-test.true c.piece-item.is c.loop-piece.invariant c.in_ok-push_piece.ensures
