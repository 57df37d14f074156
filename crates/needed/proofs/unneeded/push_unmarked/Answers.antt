use Rattle.needed.proofs.Common.{◌≡◌, ◌+◌, ◌<◌, ◌↔◌, ◌⊎◌, ◌++◌, ◌∷◌, [], inl, inr, ℕ, Bool, true, false, List, Vec, Global, Contains, get_or, sym, ap, subst, ◌∙◌, arith, cases_eq, get_or_default, Contains-append_left, Contains-push, Contains-push_cases, marks_by}
use Rattle.needed.proofs.unneeded.push_unmarked.Goals as goal
use Rattle.needed.proofs.unneeded.push_unmarked.Goals.{then-not-marks-first+in_ok-push, else-not-marks-first}

-- the unmarked ones among the first instructions of a block, behind what was there before
abbrev AreFirst : (ℕ → ℕ → Bool) → ℕ → List (ℕ × ℕ) → List (ℕ × ℕ) → ℕ → Type 0
AreFirst marks block first now count = (b k : ℕ) → Contains now (b, k) ↔ (Contains first (b, k) ⊎ ((b ≡ block) × (k < count) × (marks b k ≡ false)))

one_put : (marks : ℕ → ℕ → Bool) (block : ℕ) (first was now : List (ℕ × ℕ)) (k : ℕ) → now ≡ was ++ (block, k) ∷ [] → marks block k ≡ false → AreFirst marks block first was k → AreFirst marks block first now (k + 1)
one_put marks block first was now k is unmarked so_far b j = (
  λ has. elim (Contains-push_cases was (block, k) (b, j) (subst (λ (l : List (ℕ × ℕ)). Contains l (b, j)) is has)) [
    | inl early ↦ elim ((so_far b j).0 early) [
      | inl old ↦ inl old
      | inr (here, less, un) ↦ inr (here, omega arith, un)
    ]
    | inr same ↦
        let same_block : block ≡ b = ap (λ (p : ℕ × ℕ). p.0) same in
        let same_place : k ≡ j = ap (λ (p : ℕ × ℕ). p.1) same in
        inr (sym same_block, omega arith, subst (λ (c : ℕ). marks c j ≡ false) same_block (subst (λ (i : ℕ). marks block i ≡ false) same_place unmarked))
  ],
  λ h. subst (λ (l : List (ℕ × ℕ)). Contains l (b, j)) (sym is) (elim h [
    | inl old ↦ Contains-append_left was ((block, k) ∷ []) (b, j) ((so_far b j).1 (inl old))
    | inr (here, less, un) ↦ elim (cases_eq j k) [
      | inl same ↦ subst (λ (i : ℕ). Contains (was ++ (block, k) ∷ []) (b, i)) (sym same) (subst (λ (c : ℕ). Contains (was ++ (block, k) ∷ []) (c, k)) (sym here) (Contains-push was (block, k)))
      | inr other ↦ Contains-append_left was ((block, k) ∷ []) (b, j) ((so_far b j).1 (inr (here, omega arith, un)))
    ]
  ]),
)

none_put : (marks : ℕ → ℕ → Bool) (block : ℕ) (first was : List (ℕ × ℕ)) (k : ℕ) → marks block k ≡ true → AreFirst marks block first was k → AreFirst marks block first was (k + 1)
none_put marks block first was k marked so_far b j = (
  λ has. elim ((so_far b j).0 has) [
    | inl old ↦ inl old
    | inr (here, less, un) ↦ inr (here, omega arith, un)
  ],
  λ h. elim h [
    | inl old ↦ (so_far b j).1 (inl old)
    | inr (here, less, un) ↦ elim (cases_eq j k) [
      | inl same ↦
          let is : marks b j ≡ true = ap (λ (c : ℕ). marks c j) here ∙ (ap (marks block) same ∙ marked) in
          absurd cc
      | inr other ↦ (so_far b j).1 (inr (here, omega arith, un))
    ]
  ],
)

pub loop-place-preserved : goal.loop-place-preserved
loop-place-preserved c =
    let firsts = c.args.numbers.now.firsts.items in
    let marks = c.args.marks.now in
    let l = c.loop-place in
    let first : c.index-first.result.now ≡ get_or firsts c.args.block 0 = c.index-first.ensures ∙ get_or_default firsts c.args.block c.index-first.result.now 0 c.requires.block in
    elim c.if-not-marks-first.branch [
      | then-not-marks-first+in_ok-push w ↦
          one_put (marks_by firsts marks) c.args.block c.args.places.now.items l.places.items c.if-not-marks-first.places.items l.place
          (ap (λ (v : Vec (ℕ × ℕ) Global). v.items) w.places-is ∙ w.in_ok-push.ensures.items)
          (ap (λ (n : ℕ). get_or marks (n + l.place) false) (sym first) ∙ w.if-not-marks-first.true) l.invariant
      | else-not-marks-first w ↦
          subst (λ (v : Vec (ℕ × ℕ) Global). AreFirst (marks_by firsts marks) c.args.block c.args.places.now.items v.items (l.place + 1)) (sym w.places-is)
          (none_put (marks_by firsts marks) c.args.block c.args.places.now.items l.places.items l.place (ap (λ (n : ℕ). get_or marks (n + l.place) false) (sym first) ∙ w.if-not-marks-first.false) l.invariant)
    ]

pub returns : goal.returns
returns c =
    let l = c.loop-place in
    let all : l.place ≡ c.args.count = omega arith in
    subst (λ (n : ℕ). AreFirst (marks_by c.args.numbers.now.firsts.items c.args.marks.now) c.args.block c.args.places.now.items l.places.items n) all l.invariant
