-- Dead code elimination and folding leave literals that are numbers of their widths.
use Rattle.strategy_core.proofs.Common.{CleanedNumbersWereThere, CleanedNumbersFit, FoldedNumbersWereThere, FoldedNumbersFit}

pub cleaned_numbers_fit : CleanedNumbersWereThere → CleanedNumbersFit
cleaned_numbers_fit were f g checks fit cleaned b k i r n is number =
    let was = were f g b k i r n checks cleaned is number in
    fit b was.0 i was.1 n was.2 was.3

pub folded_numbers_fit : FoldedNumbersWereThere → FoldedNumbersFit
folded_numbers_fit were f g fit folded b k i r n is number =
    let was = were f g b k i r n folded is number in
    fit b k was.0 was.1 n was.2 was.3
