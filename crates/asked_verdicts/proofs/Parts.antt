-- From the search in one part of a function to that in the next.
use Rattle.asked_verdicts.proofs.Common.{◌≡◌, ◌⊎◌, inl, inr, ℕ, ◌+◌, ◌<◌, ◌≤◌, Bool, true, false, List, [], ◌∷◌, ◌++◌, length, get_or, take, map, Some, sym, subst, ◌∙◌, append_assoc, arith, ◌||◌, All, Any, Contains, MatchBool, cases_lt, map-append, All-append, All-contains, All-nil, Contains-append_right, Contains-get_or, slice_get_within, end_of, IsInst, Function, contains_at, Rule, Contains-map, from_map, Match, AreMatchesWhere, ComesBefore, IsAt, IsMatchAmong, AreReady, before_chosen, joined, joined_before, none_where, same_where, before_end, root_stands, Verdicts, Pair, pair_of, pair_in, IsTurnedDown, Asks, AsksAll, AsksUpTo, IsAnywhere, AsksToPlace, IsInBlock}
use Rattle.strategy_core.specs.Asked.{IsAdmitted}
use Rattle.asked_verdicts.proofs.Again.{rows_change_nothing}
use Rattle.asked_verdicts.proofs.Growing.{all_turned_down_stay, any_admitted_stays}
use Rattle.asked_verdicts.proofs.Passing.{any_left}
use Rattle.asked_verdicts.proofs.Sequence.{asks_nothing, asks_both, row_stays}

-- the match is in an earlier block, or in this one before this place
abbrev pub IsEarlier : ℕ → ℕ → Match → Type 0
IsEarlier b k m = IsInBlock b m × (m.binding.place < k)

abbrev pub IsInEarlierBlock : ℕ → Match → Type 0
IsInEarlierBlock b m = m.binding.block < b

abbrev pub IsPast : ℕ → ℕ → Match → Type 0
IsPast b k m = IsInEarlierBlock b m ⊎ IsEarlier b k m

any_right : {X : Type 0} (P : X → Type 0) (xs ys : List X) → Any P ys → Any P (xs ++ ys)
any_right P xs ys (k, x, within, at, h) = (let has = Contains-append_right xs ys x (k, within, at) in (has.0, x, has.1, has.2, h))

module _ (across : Bool) (rules : List Rule) (conflicts : ℕ) (f : Function) where
  -- where there is no match, nothing is asked
  pub asks_none : (P : Match → Type 0) (v : Verdicts) → ((m : Match) → IsMatchAmong across rules f m → ¬ P m) → AsksAll across rules conflicts f P v v false
  asks_none P v never = record {
    matches = [];
    are_matches = none_where rules f P never;
    asks = asks_nothing rules conflicts v;
    answer = All-nil (IsTurnedDown v.table);
  }

  -- ---- at an instruction

  pub asks_these : (P : Match → Type 0) (ms : List Match) (a c : Verdicts) (any : Bool) → AreMatchesWhere across rules f P ms → Asks rules conflicts (map pair_of ms) a c
      → MatchBool any (Any (IsAdmitted c.table) ms) (All (IsTurnedDown c.table) ms) → AsksAll across rules conflicts f P a c any
  asks_these P ms a c any are asks answer = record { matches = ms; are_matches = are; asks = asks; answer = answer }

  pub asks_first : (P : Match → Type 0) (ms : List Match) (i : ℕ) (a c : Verdicts) → AreMatchesWhere across rules f P ms → (first : AsksToPlace rules conflicts ms a c (Some i))
      → AsksUpTo across rules conflicts f P a c first.0
  asks_first P ms i a c are (chosen, at, asks, down, up) =
      let is = All-contains (λ m. IsMatchAmong across rules f m × P m) ms chosen are.each (contains_at ms i chosen at) in
      record {
        is_match = is.0;
        holds = is.1;
        passed = take i ms;
        are_before = before_chosen rules f P ms i chosen at are;
        asks = asks;
        turned_down = down;
        admitted = up;
      }

  -- ---- two parts, one behind the other

  answers_both : (xs ys : List Match) (b c : Verdicts) (pairs : List Pair) (x y : Bool) → Asks rules conflicts pairs b c
      → MatchBool x (Any (IsAdmitted b.table) xs) (All (IsTurnedDown b.table) xs) → MatchBool y (Any (IsAdmitted c.table) ys) (All (IsTurnedDown c.table) ys)
      → MatchBool (x || y) (Any (IsAdmitted c.table) (xs ++ ys)) (All (IsTurnedDown c.table) (xs ++ ys))
  answers_both xs ys b c pairs true y later some says = any_left (IsAdmitted c.table) xs ys (any_admitted_stays rules b.table c.table (row_stays rules conflicts pairs b c later) xs some)
  answers_both xs ys b c pairs false true later none says = any_right (IsAdmitted c.table) xs ys says
  answers_both xs ys b c pairs false false later none says = All-append (IsTurnedDown c.table) xs ys (all_turned_down_stay rules b.table c.table (row_stays rules conflicts pairs b c later) xs none) says

  asks_joined : (xs ys : List Match) (a b c : Verdicts) → Asks rules conflicts (map pair_of xs) a b → Asks rules conflicts (map pair_of ys) b c → Asks rules conflicts (map pair_of (xs ++ ys)) a c
  asks_joined xs ys a b c first later = subst (λ (l : List Pair). Asks rules conflicts l a c) (sym (map-append pair_of xs ys)) (asks_both rules conflicts (map pair_of xs) (map pair_of ys) a b c first later)

  both : (P Q R : Match → Type 0) (a b c : Verdicts) (x y : Bool)
      → ((m n : Match) → P m → Q n → ComesBefore m n)
      → ((m : Match) → IsMatchAmong across rules f m → R m → P m ⊎ Q m) → ((m : Match) → P m → R m) → ((m : Match) → Q m → R m)
      → AsksAll across rules conflicts f P a b x → AsksAll across rules conflicts f Q b c y → AsksAll across rules conflicts f R a c (x || y)
  both P Q R a b c x y before split from_p from_q first later = record {
    matches = first.matches ++ later.matches;
    are_matches = joined rules f P Q R first.matches later.matches first.are_matches later.are_matches before split from_p from_q;
    asks = asks_joined first.matches later.matches a b c first.asks later.asks;
    answer = answers_both first.matches later.matches b c (map pair_of later.matches) x y later.asks first.answer later.answer;
  }

  ends : (P Q R : Match → Type 0) (chosen : Match) (a b c : Verdicts)
      → ((m n : Match) → P m → Q n → ComesBefore m n)
      → ((m : Match) → R m → ComesBefore m chosen → P m ⊎ Q m) → ((m : Match) → P m → R m) → ((m : Match) → Q m → R m)
      → AsksAll across rules conflicts f P a b false → AsksUpTo across rules conflicts f Q b c chosen → AsksUpTo across rules conflicts f R a c chosen
  ends P Q R chosen a b c before split from_p from_q first later = record {
    is_match = later.is_match;
    holds = from_q chosen later.holds;
    passed = first.matches ++ later.passed;
    are_before = joined_before rules f P Q R chosen first.matches later.passed later.holds first.are_matches later.are_before before split from_p from_q;
    asks = subst (λ (l : List Match). Asks rules conflicts (map pair_of l) a c) (sym (append_assoc first.matches later.passed (chosen ∷ [])))
        (asks_joined first.matches (later.passed ++ chosen ∷ []) a b c first.asks later.asks);
    turned_down = All-append (IsTurnedDown c.table) first.matches later.passed
        (all_turned_down_stay rules b.table c.table (row_stays rules conflicts (map pair_of (later.passed ++ chosen ∷ [])) b c later.asks) first.matches first.answer) later.turned_down;
    admitted = later.admitted;
  }

  told_by : (P Q : Match → Type 0) (a c : Verdicts) (any : Bool) → ((m : Match) → IsMatchAmong across rules f m → Q m → P m) → ((m : Match) → P m → Q m)
      → AsksAll across rules conflicts f P a c any → AsksAll across rules conflicts f Q a c any
  told_by P Q a c any back on h = record { matches = h.matches; are_matches = same_where rules f P Q h.matches h.are_matches back on; asks = h.asks; answer = h.answer }

  -- ---- the instructions of a block

  no_place_yet : (b : ℕ) (m : Match) → IsMatchAmong across rules f m → ¬ IsEarlier b 0 m
  no_place_yet b m is earlier = omega (arith, earlier.1)

  pub no_place_asked : (b : ℕ) (v : Verdicts) → AsksAll across rules conflicts f (IsEarlier b 0) v v false
  no_place_asked b v = asks_none (IsEarlier b 0) v (no_place_yet b)

  place_before : (b k : ℕ) (m n : Match) → IsEarlier b k m → IsAt b k n → ComesBefore m n
  place_before b k m n of_m of_n = inr (of_m.0 ∙ sym of_n.0, inl (omega (arith, of_m.1, of_n.1)))

  pub next_place : (b k : ℕ) (u v w : Verdicts) (x y : Bool) → AsksAll across rules conflicts f (IsEarlier b k) u v x → AsksAll across rules conflicts f (IsAt b k) v w y
      → AsksAll across rules conflicts f (IsEarlier b (k + 1)) u w (x || y)
  next_place b k u v w x y = both (IsEarlier b k) (IsAt b k) (IsEarlier b (k + 1)) u v w x y (place_before b k)
      (λ m is of. elim (cases_lt m.binding.place k) [ inl less ↦ inl (of.0, less) | inr past ↦ inr (of.0, omega (arith, of.1, past)) ])
      (λ m of. (of.0, omega (arith, of.1)))
      (λ m of. (of.0, omega (arith, of.1)))

  pub whole_block : (b k : ℕ) (u w : Verdicts) (any : Bool) → AreReady rules → end_of f b ≤ k → AsksAll across rules conflicts f (IsEarlier b k) u w any → AsksAll across rules conflicts f (IsInBlock b) u w any
  whole_block b k u w any ready past = told_by (IsEarlier b k) (IsInBlock b) u w any within (λ m of. of.0)
    where
      within : (m : Match) → IsMatchAmong across rules f m → IsInBlock b m → IsEarlier b k m
      within m is of =
          let root = root_stands rules f m ready is in
          let there : IsInst f b m.binding.place root.inst = subst (λ (d : ℕ). IsInst f d m.binding.place root.inst) of root.is_inst in
          (of, omega (arith, before_end f b m.binding.place root.inst there, past))

  -- ---- the blocks of the function

  pub no_block_asked : (v : Verdicts) → AsksAll across rules conflicts f (IsInEarlierBlock 0) v v false
  no_block_asked v = asks_none (IsInEarlierBlock 0) v (λ m is of. omega (arith, of))

  block_before : (b : ℕ) (m n : Match) → IsInEarlierBlock b m → IsInBlock b n → ComesBefore m n
  block_before b m n of_m of_n = inl (omega (arith, of_m, of_n))

  pub next_block : (b : ℕ) (u v w : Verdicts) (x y : Bool) → AsksAll across rules conflicts f (IsInEarlierBlock b) u v x → AsksAll across rules conflicts f (IsInBlock b) v w y
      → AsksAll across rules conflicts f (IsInEarlierBlock (b + 1)) u w (x || y)
  next_block b u v w x y = both (IsInEarlierBlock b) (IsInBlock b) (IsInEarlierBlock (b + 1)) u v w x y (block_before b)
      (λ m is of. elim (cases_lt m.binding.block b) [ inl less ↦ inl less | inr past ↦ inr (omega (arith, of, past)) ])
      (λ m of. omega (arith, of))
      (λ m of. omega (arith, of))

  pub whole_function : (b : ℕ) (u w : Verdicts) (any : Bool) → AreReady rules → length f.blocks ≤ b → AsksAll across rules conflicts f (IsInEarlierBlock b) u w any → AsksAll across rules conflicts f IsAnywhere u w any
  whole_function b u w any ready past = told_by (IsInEarlierBlock b) IsAnywhere u w any within (λ m of. tt)
    where
      within : (m : Match) → IsMatchAmong across rules f m → IsAnywhere m → IsInEarlierBlock b m
      within m is of =
          let root = root_stands rules f m ready is in
          let less : m.binding.block < length f.blocks = slice_get_within f.blocks m.binding.block root.is_inst.block root.is_inst.is_block in
          omega (arith, less, past)

  -- ---- all instructions before a place, in any block

  pub nothing_past : (v : Verdicts) → AsksAll across rules conflicts f (IsPast 0 0) v v false
  nothing_past v = asks_none (IsPast 0 0) v (λ m is past. elim past [ inl block ↦ omega (arith, block) | inr place ↦ omega (arith, place.1) ])

  past_before : (b k : ℕ) (m n : Match) → IsPast b k m → IsAt b k n → ComesBefore m n
  past_before b k m n past of_n = elim past [
    | inl block ↦ inl (omega (arith, block, of_n.0))
    | inr place ↦ place_before b k m n place of_n
  ]

  past_here : (b k : ℕ) (m : Match) → IsAt b k m → IsPast b (k + 1) m
  past_here b k m of = inr (of.0, omega (arith, of.1))

  past_on : (b k : ℕ) (m : Match) → IsPast b k m → IsPast b (k + 1) m
  past_on b k m past = elim past [ inl block ↦ inl block | inr place ↦ inr (place.0, omega (arith, place.1)) ]

  pub past_place : (b k : ℕ) (u v w : Verdicts) → AsksAll across rules conflicts f (IsPast b k) u v false → AsksAll across rules conflicts f (IsAt b k) v w false
      → AsksAll across rules conflicts f (IsPast b (k + 1)) u w false
  past_place b k u v w = both (IsPast b k) (IsAt b k) (IsPast b (k + 1)) u v w false false (past_before b k) split (past_on b k) (past_here b k)
    where
      split : (m : Match) → IsMatchAmong across rules f m → IsPast b (k + 1) m → IsPast b k m ⊎ IsAt b k m
      split m is past = elim past [
        | inl block ↦ inl (inl block)
        | inr place ↦ elim (cases_lt m.binding.place k) [ inl less ↦ inl (inr (place.0, less)) | inr late ↦ inr (place.0, omega (arith, place.1, late)) ]
      ]

  pub past_block : (b k : ℕ) (u w : Verdicts) → AreReady rules → end_of f b ≤ k → AsksAll across rules conflicts f (IsPast b k) u w false → AsksAll across rules conflicts f (IsPast (b + 1) 0) u w false
  past_block b k u w ready end = told_by (IsPast b k) (IsPast (b + 1) 0) u w false within on
    where
      within : (m : Match) → IsMatchAmong across rules f m → IsPast (b + 1) 0 m → IsPast b k m
      within m is past = elim past [
        | inr place ↦ absurd (omega (arith, place.1))
        | inl block ↦ elim (cases_lt m.binding.block b) [
          | inl less ↦ inl less
          | inr here ↦
              let root = root_stands rules f m ready is in
              let in_block : m.binding.block ≡ b = omega (arith, block, here) in
              let there : IsInst f b m.binding.place root.inst = subst (λ (d : ℕ). IsInst f d m.binding.place root.inst) in_block root.is_inst in
              inr (in_block, omega (arith, before_end f b m.binding.place root.inst there, end))
        ]
      ]

      on : (m : Match) → IsPast b k m → IsPast (b + 1) 0 m
      on m past = elim past [ inl block ↦ inl (omega (arith, block)) | inr place ↦ inl (omega (arith, place.0)) ]

  pub past_all : (b k : ℕ) (u w : Verdicts) → AreReady rules → length f.blocks ≤ b → AsksAll across rules conflicts f (IsPast b k) u w false → AsksAll across rules conflicts f IsAnywhere u w false
  past_all b k u w ready end = told_by (IsPast b k) IsAnywhere u w false within (λ m past. tt)
    where
      within : (m : Match) → IsMatchAmong across rules f m → IsAnywhere m → IsPast b k m
      within m is anywhere =
          let root = root_stands rules f m ready is in
          let less : m.binding.block < length f.blocks = slice_get_within f.blocks m.binding.block root.is_inst.block root.is_inst.is_block in
          inl (omega (arith, less, end))

  pub past_first : (b k : ℕ) (chosen : Match) (u v w : Verdicts) → AsksAll across rules conflicts f (IsPast b k) u v false → AsksUpTo across rules conflicts f (IsAt b k) v w chosen
      → AsksUpTo across rules conflicts f IsAnywhere u w chosen
  past_first b k chosen u v w first later = ends (IsPast b k) (IsAt b k) IsAnywhere chosen u v w (past_before b k) split (λ m past. tt) (λ m of. tt) first later
    where
      split : (m : Match) → IsAnywhere m → ComesBefore m chosen → IsPast b k m ⊎ IsAt b k m
      split m of before = elim before [
        | inl block ↦ inl (inl (omega (arith, block, later.holds.0)))
        | inr same ↦ elim same.1 [
          | inl place ↦ inl (inr (same.0 ∙ later.holds.0, omega (arith, place, later.holds.1)))
          | inr here ↦ inr (same.0 ∙ later.holds.0, here.0 ∙ later.holds.1)
        ]
      ]

  -- ---- matches that are known to be turned down

  rows_there : (v : Verdicts) (ms : List Match) → All (IsTurnedDown v.table) ms → All (Contains (map pair_in v.table)) (map pair_of ms)
  rows_there v ms down i d lt =
      let (m, among, is) = from_map pair_of ms (get_or (map pair_of ms) i d) (Contains-get_or (map pair_of ms) i d lt) in
      let (row, has, pair, other) = All-contains (IsTurnedDown v.table) ms m down among in
      subst (Contains (map pair_in v.table)) (pair ∙ sym is) (Contains-map pair_in v.table row has)

  pub asks_again : (P : Match → Type 0) (ms : List Match) (v : Verdicts) → AreMatchesWhere across rules f P ms → All (IsTurnedDown v.table) ms → AsksAll across rules conflicts f P v v false
  asks_again P ms v are down = record {
    matches = ms;
    are_matches = are;
    asks = rows_change_nothing rules conflicts (map pair_of ms) v (rows_there v ms down);
    answer = down;
  }
