-- Pairs that are asked once more.
use Rattle.asked_verdicts.proofs.Common.{List, [], ◌∷◌, ◌++◌, append_assoc, map, refl, sym, subst, All, Contains, All-head, All-tail, Pair, AreFirstAsked, pair_in, PairsWithRowsChangeNothing}
use Rattle.std.proofs.Common.{append-nil}
use Rattle.asked_verdicts.proofs.Asking.{asked_again}

all_again : (asked pairs rows : List Pair) → AreFirstAsked asked rows → All (Contains rows) pairs → AreFirstAsked (asked ++ pairs) rows
all_again asked [] rows first all = subst (λ (l : List Pair). AreFirstAsked l rows) (sym (append-nil asked)) first
all_again asked (p ∷ pairs) rows first all =
    let was_asked : Contains asked p = (first.same p).0 (All-head (Contains rows) p pairs all) in
    subst (λ (l : List Pair). AreFirstAsked l rows) (append_assoc asked (p ∷ []) pairs)
    (all_again (asked ++ p ∷ []) pairs rows (asked_again asked rows p first was_asked) (All-tail (Contains rows) p pairs all))

pub rows_change_nothing : PairsWithRowsChangeNothing
rows_change_nothing rules conflicts pairs verdicts all = record {
  more = [];
  rows = sym (append-nil verdicts.table);
  logs = refl;
  asked = λ before h. record {
    rows = all_again before pairs (map pair_in verdicts.table) h.rows all;
    honest = h.honest;
    unrefuted = h.unrefuted;
    pairs = h.pairs;
  };
}
