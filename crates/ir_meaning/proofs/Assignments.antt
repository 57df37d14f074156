-- If one result is assigned at another's instruction, the other isn't assigned at the one's.
use Rattle.ir_meaning.proofs.Common.{◌≡◌, ℕ, suc, ◌<◌, ◌⊎◌, inl, inr, List, [], ◌∷◌, sym, subst, ◌∙◌, arith, Contains, cases_eq, Function, IsAssigned, IsWalk, IsReached, NotBothAreAssigned, NoneIsAssignedBehind, AssignmentIsTransitive}
use Rattle.ir_core.specs.declared.operand.Register.TheVariants as registers
use Rattle.ir_meaning.proofs.Pieces.{not_in_empty, first_in, later_in, cases_in}

contains_or : (xs : List ℕ) (d : ℕ) → Contains xs d ⊎ (Contains xs d → ⊥)
contains_or [] d = inr (not_in_empty d)
contains_or (x ∷ xs) d =
    elim (cases_eq x d) [
      | inl is ↦ inl (subst (Contains (x ∷ xs)) is (first_in x xs))
      | inr ne ↦ elim (contains_or xs d) [
        | inl later ↦ inl (later_in x xs d later)
        | inr none ↦ inr (λ has. elim (cases_in x xs d has) [ inl is ↦ ne is | inr later ↦ none later ])
      ]
    ]

-- a walk to a block that it hasn't been in before
abbrev Arrives : Function → ℕ → Type 0
Arrives f d = (before : List ℕ) × IsWalk f (d ∷ before) × (Contains before d → ⊥)

arrives : (f : Function) (d : ℕ) (walk : List ℕ) → IsWalk f walk → Contains walk d → Arrives f d
arrives f d [] is_walk has = absurd is_walk
arrives f d (c ∷ []) is_walk has =
    elim (cases_in c [] d has) [
      | inl is ↦ ([], subst (λ x. IsWalk f (x ∷ [])) is is_walk, not_in_empty d)
      | inr later ↦ absurd (not_in_empty d later)
    ]
arrives f d (c ∷ b ∷ before) is_walk has =
    elim (contains_or (b ∷ before) d) [
      | inl again ↦ arrives f d (b ∷ before) is_walk.1 again
      | inr none ↦ elim (cases_in c (b ∷ before) d has) [
        | inl is ↦ (b ∷ before, subst (λ x. IsWalk f (x ∷ b ∷ before)) is is_walk, none)
        | inr later ↦ absurd (none later)
      ]
    ]

-- a walk to block b through blocks of `before` alone
abbrev Earlier : Function → ℕ → List ℕ → Type 0
Earlier f b before = (l : List ℕ) × IsWalk f (b ∷ l) × ((x : ℕ) → Contains (b ∷ l) x → Contains before x)

earlier : (f : Function) (b c : ℕ) (before : List ℕ) → IsWalk f (c ∷ before) → Contains before b → Earlier f b before
earlier f b c [] is_walk has = absurd (not_in_empty b has)
earlier f b c (d ∷ rest) is_walk has =
    elim (cases_in d rest b has) [
      | inl is ↦ (rest, subst (λ x. IsWalk f (x ∷ rest)) is is_walk.1, λ x h. subst (λ y. Contains (y ∷ rest) x) (sym is) h)
      | inr later ↦
          let r : Earlier f b rest = earlier f b d rest is_walk.1 later in
          (r.0, r.1, λ x h. later_in d rest x (r.2 x h))
    ]

-- a walk to place k of block b that hasn't passed the instruction at place j of block d
pub record Unpassed (f : Function) (d j b k : ℕ) : Type 0 where
  pub before : List ℕ
  pub is_walk : IsWalk f (b ∷ before)
  pub not_before : Contains before d → ⊥
  pub not_here : d ≡ b → j < k → ⊥

pub unassigned : (f : Function) (d j b k : ℕ) → Unpassed f d j b k → IsAssigned f (registers.Result d j) b k → ⊥
unassigned f d j b k u a = elim (a.1 u.before u.is_walk) [ inl passed ↦ u.not_before passed | inr here ↦ u.not_here here.0 here.1 ]

-- where o is assigned at r's instruction, some walk comes to o's without having passed r's
pub comes_first : (f : Function) (b k d j : ℕ) → IsReached f d → IsAssigned f (registers.Result b k) d j → Unpassed f d j b k
comes_first f b k d j reached a =
    let first : Arrives f d = arrives f d (d ∷ reached.0) reached.1 (first_in d reached.0) in
    elim (a.1 first.0 first.1) [
      | inl passed ↦
          let r : Earlier f b first.0 = earlier f b d first.0 first.1 passed in
          record {
            before = r.0;
            is_walk = r.1;
            not_before = λ has. first.2 (r.2 d (later_in b r.0 d has));
            not_here = λ same lt. first.2 (r.2 d (subst (λ x. Contains (x ∷ r.0) d) same (first_in d r.0)));
          }
      | inr here ↦ record {
        before = first.0;
        is_walk = subst (λ x. IsWalk f (x ∷ first.0)) (sym here.0) first.1;
        not_before = first.2;
        not_here = λ same lt. let below : k < j = here.1 in absurd (omega arith);
      }
    ]

pub not_both_assigned : NotBothAreAssigned
not_both_assigned f b k d j reached a a' = unassigned f d j b k (comes_first f b k d j reached a) a'

pub none_behind : NoneIsAssignedBehind
none_behind f b k d j reached a a' =
    let u : Unpassed f d j b k = comes_first f b k d j reached a in
    elim (a'.1 u.before u.is_walk) [
      | inl passed ↦ u.not_before passed
      | inr here ↦ elim (cases_eq j k) [
        | inl same ↦
            let own : IsAssigned f (registers.Result d j) d j = subst (λ c. IsAssigned f (registers.Result c j) d j) (sym here.0) (subst (λ i. IsAssigned f (registers.Result b i) d j) (sym same) a) in
            not_both_assigned f d j d j reached own own
        | inr ne ↦ let below : j < suc k = here.1 in u.not_here here.0 (omega arith)
      ]
    ]

pub assignment_transitive : AssignmentIsTransitive
assignment_transitive f (registers.Parameter p) d j b k a a' = a
assignment_transitive f (registers.Result c i) d j b k a a' = (a.0, both)
  where
    both : (before : List ℕ) → IsWalk f (b ∷ before) → Contains before c ⊎ ((c ≡ b) × (i < k))
    both before is_walk =
        elim (a'.1 before is_walk) [
          | inl there ↦
              let r : Earlier f d before = earlier f d b before is_walk there in
              elim (a.1 r.0 r.1) [
                | inl passed ↦ inl (r.2 c (later_in d r.0 c passed))
                | inr here ↦ inl (r.2 c (subst (λ x. Contains (x ∷ r.0) c) here.0 (first_in c r.0)))
              ]
          | inr here ↦ elim (a.1 before (subst (λ x. IsWalk f (x ∷ before)) (sym here.0) is_walk)) [
            | inl passed ↦ inl passed
            | inr there ↦
                let least : i < j = there.1 in
                let below : j < k = here.1 in
                inr (there.0 ∙ here.0, omega arith)
          ]
        ]
