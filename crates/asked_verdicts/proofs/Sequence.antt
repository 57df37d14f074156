-- Two searches one behind the other, and what they ask together.
use Rattle.asked_verdicts.proofs.Common.{ℕ, List, [], ◌++◌, refl, sym, ap, subst, ◌∙◌, append_assoc, Contains, Contains-append_left, Rule, Row, Verdicts, Pair, AreVerdictsOn, AreVerdicts, Asks}
use Rattle.std.proofs.Common.{append-nil}

module _ (rules : List Rule) (conflicts : ℕ) where
  pub asks_nothing : (v : Verdicts) → Asks rules conflicts [] v v
  asks_nothing v = record {
    more = [];
    rows = sym (append-nil v.table);
    logs = refl;
    asked = λ before h. subst (λ (l : List Pair). AreVerdictsOn rules conflicts l v) (sym (append-nil before)) h;
  }

  pub asks_both : (first later : List Pair) (a b c : Verdicts) → Asks rules conflicts first a b → Asks rules conflicts later b c → Asks rules conflicts (first ++ later) a c
  asks_both first later a b c x y = record {
    more = x.more ++ y.more;
    rows = y.rows ∙ ap (λ (l : List Row). l ++ y.more) x.rows ∙ append_assoc a.table x.more y.more;
    logs = y.logs ∙ x.logs;
    asked = λ before h. subst (λ (l : List Pair). AreVerdictsOn rules conflicts l c) (append_assoc before first later) (y.asked (before ++ first) (x.asked before h));
  }

  pub row_stays : (pairs : List Pair) (a b : Verdicts) → Asks rules conflicts pairs a b → (row : Row) → Contains a.table row → Contains b.table row
  row_stays pairs a b x row has = subst (λ (l : List Row). Contains l row) (sym x.rows) (Contains-append_left a.table x.more row has)

  pub still_verdicts : (pairs : List Pair) (a b : Verdicts) → AreVerdicts rules conflicts a → Asks rules conflicts pairs a b → AreVerdicts rules conflicts b
  still_verdicts pairs a b v x = (v.0 ++ pairs, x.asked v.0 v.1)
