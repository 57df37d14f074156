-- The typings that are found so far.
use Rattle.rule_typing.proofs.Common.{◌⊎◌, inl, inr, ℕ, List, [], ◌∷◌, ◌++◌, get_or, None, Some, Option, sym, subst, ◌∙◌, arith, Contains, AllPairs, all_pairs_push, Contains-push, Contains-push_cases, Contains-append_left, Contains-get_or, slice_get-get_or, Rule, Widths, ComesBefore, IsFirstOf, Solves, SolvesBehind, FindsLeast}
use Rattle.rule_typing.proofs.Order.{same_or_before, before_along}

-- the list comes behind all of these in lexicographic order
abbrev pub IsBehind : List (List ℕ) → List ℕ → Type 0
IsBehind found typing = (earlier : List ℕ) → Contains found earlier → ComesBefore earlier typing

-- the found ones are solutions, in order; each other solution comes behind them, and `following` is the first of these
pub record AreFound (rule : Rule) (sets : List Widths) (found : List (List ℕ)) (following : Option (List ℕ)) : Type 0 where
  pub solve : (typing : List ℕ) → Contains found typing → Solves rule sets typing
  pub in_order : AllPairs ComesBefore found
  pub rest : (typing : List ℕ) → Solves rule sets typing → Contains found typing ⊎ IsBehind found typing
  pub next : IsFirstOf (λ typing. Solves rule sets typing × IsBehind found typing) following

none_among : (typing : List ℕ) → ¬ Contains [] typing
none_among typing (k, within, is) = omega arith

pub behind_nothing : (rule : Rule) (sets : List Widths) (typing : List ℕ) → Solves rule sets typing → SolvesBehind rule sets [] 0 typing
behind_nothing rule sets typing solves = record {
  solves = solves;
  goes_on = λ c within. (
    λ less. absurd (omega arith),
    λ same.
        let at = slice_get-get_or sets c (record { has = [] }) (omega (arith, solves.chosen.count)) in
        let has = solves.chosen.each c (get_or sets c (record { has = [] })) at in
        has.0,
  );
}

pub first_found : (rule : Rule) (sets : List Widths) (next : Option (List ℕ)) → FindsLeast (SolvesBehind rule sets [] 0) next → AreFound rule sets [] next
first_found rule sets next least = record {
  solve = λ typing among. absurd (none_among typing among);
  in_order = λ j k d less within. absurd (omega arith);
  rest = λ typing solves. inr (λ earlier among. absurd (none_among earlier among));
  next = first next least;
}
  where
    first : (next : Option (List ℕ)) → FindsLeast (SolvesBehind rule sets [] 0) next → IsFirstOf (λ typing. Solves rule sets typing × IsBehind [] typing) next
    first None none = λ typing (solves, behind). none typing (behind_nothing rule sets typing solves)
    first (Some typing) found = (
      (found.holds.solves, λ earlier among. absurd (none_among earlier among)),
      λ other (solves, behind). same_or_before typing other (found.holds.solves.chosen.count ∙ sym solves.chosen.count) (found.least other (behind_nothing rule sets other solves)),
    )

module _ (rule : Rule) (sets : List Widths) (found : List (List ℕ)) (typing : List ℕ) (so_far : AreFound rule sets found (Some typing)) where
  pub behind_more : (other : List ℕ) → ComesBefore typing other → IsBehind (found ++ typing ∷ []) other
  behind_more other before earlier among = elim (Contains-push_cases found typing earlier among) [
    | inl there ↦ before_along earlier typing other (so_far.next.0.1 earlier there) before
    | inr last ↦ subst (λ t. ComesBefore t other) last before
  ]

  before_of_more : (other : List ℕ) → IsBehind (found ++ typing ∷ []) other → ComesBefore typing other
  before_of_more other behind = behind typing (Contains-push found typing)

  next_of_more : (next : Option (List ℕ)) → IsFirstOf (λ other. Solves rule sets other × ComesBefore typing other) next → IsFirstOf (λ other. Solves rule sets other × IsBehind (found ++ typing ∷ []) other) next
  next_of_more None none = λ other (solves, behind). none other (solves, before_of_more other behind)
  next_of_more (Some next) ((solves, before), first) = ((solves, behind_more next before), λ other (solves', behind). first other (solves', before_of_more other behind))

  pub order_more : AllPairs ComesBefore (found ++ typing ∷ [])
  order_more = all_pairs_push ComesBefore found typing so_far.in_order (λ k d within. so_far.next.0.1 (get_or found k d) (Contains-get_or found k d within))

  pub solve_more : (other : List ℕ) → Contains (found ++ typing ∷ []) other → Solves rule sets other
  solve_more other among = elim (Contains-push_cases found typing other among) [ inl there ↦ so_far.solve other there | inr last ↦ subst (Solves rule sets) last so_far.next.0.0 ]

  pub rest_more : (other : List ℕ) → Solves rule sets other → Contains (found ++ typing ∷ []) other ⊎ ComesBefore typing other
  rest_more other solves = elim (so_far.rest other solves) [
    | inl there ↦ inl (Contains-append_left found (typing ∷ []) other there)
    | inr behind ↦ elim (so_far.next.1 other (solves, behind)) [ inl same ↦ inl (subst (Contains (found ++ typing ∷ [])) same (Contains-push found typing)) | inr before ↦ inr before ]
  ]

  pub found_more : (next : Option (List ℕ)) → IsFirstOf (λ other. Solves rule sets other × ComesBefore typing other) next → AreFound rule sets (found ++ typing ∷ []) next
  found_more next first = record {
    solve = solve_more;
    in_order = order_more;
    rest = λ other solves. elim (rest_more other solves) [ inl there ↦ inl there | inr before ↦ inr (behind_more other before) ];
    next = next_of_more next first;
  }
