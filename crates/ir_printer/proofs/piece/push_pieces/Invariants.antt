use Rattle.ir_printer.proofs.Common.{◌≡◌, ◌++◌, take, flat_map, piece_text}
use Rattle.ir_printer.proofs.piece.push_pieces.Given as goal

abbrev pub invariant-loop-piece : goal.invariant-loop-piece
invariant-loop-piece l = l.out.items ≡ l.fn.out.items ++ flat_map (piece_text l.called.function.now) (take l.piece-index l.pieces)
