-- What a table of verdicts says stays true as rows are appended.
use Rattle.asked_verdicts.proofs.Common.{List, All, Any, Contains, Rule, Row, Match, IsTurnedDown}
use Rattle.strategy_core.specs.Asked.{IsAdmitted}

module _ (rules : List Rule) (table larger : List Row) (grows : (row : Row) → Contains table row → Contains larger row) where
  pub admitted_stays : (m : Match) → IsAdmitted table m → IsAdmitted larger m
  admitted_stays m h = (h.0, grows h.0 h.1, h.2, h.3)

  pub all_turned_down_stay : (ms : List Match) → All (IsTurnedDown table) ms → All (IsTurnedDown larger) ms
  all_turned_down_stay ms all k d lt = (let h = all k d lt in (h.0, grows h.0 h.1, h.2, h.3))

  pub any_admitted_stays : (ms : List Match) → Any (IsAdmitted table) ms → Any (IsAdmitted larger) ms
  any_admitted_stays ms (k, m, within, is, h) = (k, m, within, is, admitted_stays m h)
