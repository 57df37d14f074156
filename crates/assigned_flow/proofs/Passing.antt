-- Which places every walk has passed, by dominance between blocks and by index within one.
use Rattle.assigned_flow.proofs.Common.{◌≡◌, ◌≢◌, ℕ, ◌<◌, ◌⊎◌, ◌↔◌, List, [], ◌∷◌, length, sym, ◌∙◌, subst, inl, inr, arith, Contains, cases_lt, Contains-append_cases, Contains-append_left, Contains-append_right, Contains-push, Contains-push_cases, Dominates, IsPassed, IsClosed}
use Rattle.dominator_tree.specs.Walks.{IsWalk, IsReached}

not_in_empty : (x : ℕ) → Contains [] x → ⊥
not_in_empty x has = omega arith

Contains-cons_cases : (b : ℕ) (before : List ℕ) (c : ℕ) → Contains (b ∷ before) c → (b ≡ c) ⊎ Contains before c
Contains-cons_cases b before c has =
    elim (Contains-append_cases (b ∷ []) before c has) [
      | inl first ↦ elim (Contains-push_cases [] b c first) [ inl none ↦ absurd (not_in_empty c none) | inr is ↦ inl is ]
      | inr later ↦ inr later
    ]

-- a walk stays in the graph
pub walk_within : (graph : List (List ℕ)) → IsClosed graph → (walk : List ℕ) (c : ℕ) → IsWalk graph walk → Contains walk c → c < length graph
walk_within graph closed [] c is_walk has = absurd is_walk
walk_within graph closed (b ∷ []) c is_walk has =
    elim (Contains-cons_cases b [] c has) [
      | inl is ↦ subst (λ n. n < length graph) (sym is_walk ∙ is) closed.some_block
      | inr none ↦ absurd (not_in_empty c none)
    ]
walk_within graph closed (d ∷ b ∷ before) c is_walk has =
    elim (Contains-cons_cases d (b ∷ before) c has) [
      | inl is ↦ subst (λ n. n < length graph) is (closed.targets b d is_walk.0)
      | inr earlier ↦ walk_within graph closed (b ∷ before) c is_walk.1 earlier
    ]

-- a block that is reached has a first visit: not every walk to it has been in it before
first_visit : (graph : List (List ℕ)) (b : ℕ) → ((before : List ℕ) → IsWalk graph (b ∷ before) → Contains before b) → (walk : List ℕ) → IsWalk graph walk → Contains walk b → ⊥
first_visit graph b again [] is_walk has = is_walk
first_visit graph b again (c ∷ []) is_walk has =
    elim (Contains-cons_cases c [] b has) [
      | inl is ↦ not_in_empty b (again [] (subst (λ n. IsWalk graph (n ∷ [])) is is_walk))
      | inr none ↦ not_in_empty b none
    ]
first_visit graph b again (d ∷ c ∷ before) is_walk has =
    elim (Contains-cons_cases d (c ∷ before) b has) [
      | inl is ↦
          let before_b = again (c ∷ before) (subst (λ n. IsWalk graph (n ∷ c ∷ before)) is is_walk) in
          first_visit graph b again (c ∷ before) is_walk.1 before_b
      | inr earlier ↦ first_visit graph b again (c ∷ before) is_walk.1 earlier
    ]

-- in a block that is reached, every walk to place k has passed place j of the same block exactly where j is below k
pub passed_here : (graph : List (List ℕ)) (d j b k : ℕ) → d ≡ b → IsReached graph b → (j < k) ↔ IsPassed graph d j b k
passed_here graph d j b k same reached = (
  λ below before is_walk. inr (same, below),
  λ passed. elim (cases_lt j k) [
    | inl below ↦ below
    | inr above ↦
        let again : (before : List ℕ) → IsWalk graph (b ∷ before) → Contains before b = λ before is_walk.
        elim (passed before is_walk) [ inl earlier ↦ subst (Contains before) same earlier | inr here ↦ absurd (omega arith) ] in
        absurd (first_visit graph b again (b ∷ reached.0) reached.1 (Contains-append_left (b ∷ []) reached.0 b (Contains-push [] b)))
  ],
)

-- every walk has passed a place of another block exactly where that block dominates this one
pub passed_elsewhere : (graph : List (List ℕ)) (d j b k : ℕ) → d ≢ b → Dominates graph d b ↔ IsPassed graph d j b k
passed_elsewhere graph d j b k apart = (
  λ dominates before is_walk. elim (Contains-cons_cases b before d (dominates before is_walk)) [
    | inl is ↦ absurd (apart (sym is))
    | inr earlier ↦ inl earlier
  ],
  λ passed before is_walk. elim (passed before is_walk) [
    | inl earlier ↦ Contains-append_right (b ∷ []) before d earlier
    | inr here ↦ absurd (apart here.0)
  ],
)

-- a block that is reached is one of the graph
pub reached_within : (graph : List (List ℕ)) (b : ℕ) → IsClosed graph → IsReached graph b → b < length graph
reached_within graph b closed reached =
    walk_within graph closed (b ∷ reached.0) b reached.1 (Contains-append_left (b ∷ []) reached.0 b (Contains-push [] b))

-- a block that every walk to a reached block has passed is one of the graph
pub passed_within : (graph : List (List ℕ)) (d j b k : ℕ) → IsClosed graph → IsReached graph b → d ≢ b → IsPassed graph d j b k → d < length graph
passed_within graph d j b k closed reached apart passed =
    elim (passed reached.0 reached.1) [
      | inl earlier ↦ walk_within graph closed (b ∷ reached.0) d reached.1 (Contains-append_right (b ∷ []) reached.0 d earlier)
      | inr here ↦ absurd (apart here.0)
    ]
