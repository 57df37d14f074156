-- The clauses of an arena to which literals are added, and clauses that watch two different literals.
use Rattle.first_uip.proofs.Common.{◌≡◌, ◌≢◌, ◌-◌, ◌≤◌, List, [], ◌∷◌, ◌++◌, length, map, take, drop, All, if◌then◌else◌, ap, ◌∙◌, arith, inl, inr, length-append, length-drop, cases_Bool, drop-append-le, take-append-le, take_all, drop_at, map_push, Lit, is_same, is_same-true, Header, Alone, Two, literals_of}
use Rattle.first_uip.proofs.Replaced.{map_same_where}

-- the clause's part of the arena lies within these literals
abbrev pub IsWithin : List Lit → Header → Type 0
IsWithin literals h = (h.start ≤ h.end) × (h.end ≤ length literals)

module _ (literals more : List Lit) where
  literals_of-append : (h : Header) → IsWithin literals h → literals_of (literals ++ more) h ≡ literals_of literals h
  literals_of-append h within =
      ap (take (h.end - h.start)) (drop-append-le h.start literals more (omega (arith, within.0, within.1)))
      ∙ take-append-le (h.end - h.start) (drop h.start literals) more (omega (arith, within.0, within.1, length-drop h.start literals))

  literals_of_last : (h : Header) → length literals ≡ h.start → h.end ≡ length (literals ++ more) → literals_of (literals ++ more) h ≡ more
  literals_of_last h start end =
      ap (take (h.end - h.start)) (drop_at literals more h.start start)
      ∙ take_all (h.end - h.start) more (omega (arith, start, end, length-append literals more))

  pub clauses_push : (headers : List Header) (h : Header) → All (IsWithin literals) headers → length literals ≡ h.start → h.end ≡ length (literals ++ more) → map (literals_of (literals ++ more)) (headers ++ h ∷ []) ≡ map (literals_of literals) headers ++ more ∷ []
  clauses_push headers h within start end =
      map_push (literals_of (literals ++ more)) headers h
      ∙ (λ k. map_same_where (IsWithin literals) (literals_of (literals ++ more)) (literals_of literals) literals_of-append headers within k ++ literals_of_last h start end k ∷ [])

pub two_watched : (first second : Lit) → first ≢ second → (if is_same first second then Alone else Two first second) ≡ Two first second
two_watched first second differ =
    elim (cases_Bool (is_same first second)) [
      | inl same ↦ absurd (differ (is_same-true first second same))
      | inr other ↦ ap (λ b. if b then Alone else Two first second) other
    ]
