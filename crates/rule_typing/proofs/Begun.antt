-- The widths from which `settle` is started to find a typing that begins as asked.
use Rattle.rule_typing.proofs.Common.{◌≡◌, inl, inr, ℕ, ◌+◌, ◌<◌, ◌≤◌, List, [], ◌∷◌, ◌++◌, length, get_or, Some, sym, subst, ◌∙◌, arith, slice_get, slice_index, cases_eq, cases_lt, get_or_past, get_or_push, get_or_append_left, slice_get-get_or, slice_get_within, same_Some, Rule, Widths, Has, IsLeast, GoesOn, AreOf, SolvesFrom, SolvesBehind, AreLeast}

-- of each set the least width that may stand at its place
abbrev pub AreFirst : List Widths → List ℕ → ℕ → List ℕ → Type 0
AreFirst sets beginning bound widths = (c : ℕ) (set : Widths) → slice_get sets c ≡ Some set → IsLeast (λ N. Has set N × GoesOn beginning bound c N) (Some (slice_index widths c))

pub some_at : (sets : List Widths) (c : ℕ) → c < length sets → (set : Widths) × (slice_get sets c ≡ Some set)
some_at sets c within = let at = slice_get-get_or sets c (record { has = [] }) within in (get_or sets c (record { has = [] }), at)

module _ (rule : Rule) (sets : List Widths) (beginning : List ℕ) (bound : ℕ) (first : List ℕ) (count : length first ≡ length sets) (firsts : AreFirst sets beginning bound first) where
  pub first_of : AreOf sets first
  first_of = record { count = count; each = λ c set at. (firsts c set at).0.0 }

  -- a solution that begins as asked is one from these widths up, and the other way round
  from_first : (others : List ℕ) → SolvesBehind rule sets beginning bound others → SolvesFrom rule sets (length beginning) first others
  from_first others behind = record {
    solves = behind.solves;
    keeps = λ c less. elim (cases_lt c (length sets)) [
      | inl within ↦
          let set_at = some_at sets c within in
          let here = behind.goes_on c (omega (arith, behind.solves.chosen.count)) in
          here.0 less ∙ sym ((firsts c set_at.0 set_at.1).0.1.0 less)
      | inr past ↦ get_or_past others c 0 (omega (arith, behind.solves.chosen.count)) ∙ sym (get_or_past first c 0 (omega arith))
    ];
    rises = λ c. elim (cases_lt c (length sets)) [
      | inl within ↦
          let set_at = some_at sets c within in
          (firsts c set_at.0 set_at.1).1 (slice_index others c) (behind.solves.chosen.each c set_at.0 set_at.1, behind.goes_on c (omega (arith, behind.solves.chosen.count)))
      | inr past ↦ let h : get_or first c 0 ≡ 0 = get_or_past first c 0 (omega arith) in omega arith
    ];
  }

  behind_first : (others : List ℕ) → SolvesFrom rule sets (length beginning) first others → SolvesBehind rule sets beginning bound others
  behind_first others from = record {
    solves = from.solves;
    goes_on = λ c within.
        let set_at = some_at sets c (omega (arith, from.solves.chosen.count)) in
        let here = (firsts c set_at.0 set_at.1).0.1 in
        (λ less. from.keeps c less ∙ here.0 less, λ same. let h = here.1 same in let up = from.rises c in omega arith);
  }

  pub least_behind : (widths : List ℕ) → AreLeast (SolvesFrom rule sets (length beginning) first) widths → AreLeast (SolvesBehind rule sets beginning bound) widths
  least_behind widths found = record { holds = behind_first widths found.holds; least = λ others behind. found.least others (from_first others behind) }

  pub none_behind : ((others : List ℕ) → ¬ SolvesFrom rule sets (length beginning) first others) → (others : List ℕ) → ¬ SolvesBehind rule sets beginning bound others
  none_behind none others behind = none others (from_first others behind)

-- where a set has no such width, no solution begins as asked
pub no_first : (rule : Rule) (sets : List Widths) (beginning : List ℕ) (bound c : ℕ) (set : Widths) → slice_get sets c ≡ Some set → c < length sets → ((N : ℕ) → ¬ (Has set N × GoesOn beginning bound c N))
    → (others : List ℕ) → ¬ SolvesBehind rule sets beginning bound others
no_first rule sets beginning bound c set at within none others behind =
    none (slice_index others c) (behind.solves.chosen.each c set at, behind.goes_on c (omega (arith, behind.solves.chosen.count)))

-- one more width is found
module _ (sets : List Widths) (beginning : List ℕ) (bound : ℕ) where
  abbrev pub AreFirstOf : ℕ → List ℕ → Type 0
  AreFirstOf n widths = (c : ℕ) (set : Widths) → c < n → slice_get sets c ≡ Some set → IsLeast (λ N. Has set N × GoesOn beginning bound c N) (Some (slice_index widths c))

  pub one_more : (widths : List ℕ) (n w : ℕ) (empty : Widths) → length widths ≡ n → n < length sets → AreFirstOf n widths → IsLeast (λ N. Has (get_or sets n empty) N × GoesOn beginning bound n N) (Some w) → AreFirstOf (n + 1) (widths ++ w ∷ [])
  one_more widths n w empty count within before here c set less at = elim (cases_eq c n) [
    | inl same ↦
        let set_is : get_or sets n empty ≡ set = same_Some (get_or sets n empty) set (sym (slice_get-get_or sets n empty within) ∙ subst (λ k. slice_get sets k ≡ Some set) same at) in
        let last : slice_index (widths ++ w ∷ []) n ≡ w = get_or_push widths w 0 n count in
        rw (same, last) (subst (λ s. IsLeast (λ N. Has s N × GoesOn beginning bound n N) (Some w)) set_is here)
    | inr other ↦
        let earlier : slice_index (widths ++ w ∷ []) c ≡ slice_index widths c = get_or_append_left widths (w ∷ []) 0 c (omega arith) in
        rw earlier (before c set (omega arith) at)
  ]

  pub all_first : (widths : List ℕ) (n : ℕ) → length sets ≤ n → AreFirstOf n widths → AreFirst sets beginning bound widths
  all_first widths n past each c set at = let within : c < length sets = slice_get_within sets c set at in each c set (omega arith) at
