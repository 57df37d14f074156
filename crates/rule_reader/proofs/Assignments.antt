-- The checks of a rule's assignments, as the code goes over them.
use Rattle.rule_reader.proofs.Common.{◌≡◌, ◌⊎◌, inl, inr, ℕ, suc, ◌-◌, ◌<◌, ◌≤◌, List, length, Option, None, Some, refl, subst, arith, slice_get, IsTrue, Bool, RawRule, RawStatement, AssignsAt, IsTemporary, IsRoot, IsWellFormed, StandsAt, HasNameOf, AssignsAgain, DuplicateAt, MissesRoot, RootMissingAt, IsFirst, IsFirstLine}
use Rattle.rule_reader.proofs.Places.{same_at, there}
use Rattle.rule_reader.proofs.Firsts.{first_here, first_left, first_right, first_none_of, lines_before}

-- an earlier statement assigns the name
abbrev pub AssignedBefore : List RawStatement → ℕ → List ℕ → Type 0
AssignedBefore statements k name = (j : ℕ) × (j < k) × AssignsAt statements j name

module _ (earlier : List RawRule) (raw : RawRule) (well : IsWellFormed raw) where
  abbrev pub Again : ℕ → Type 0
  Again line = StandsAt raw.source (AssignsAgain raw.source) line ⊎ StandsAt raw.target (AssignsAgain raw.target) line

  pub name_line_first : (l m : ℕ) → HasNameOf earlier raw.name × (raw.line ≡ l) → Again m → l ≤ m
  name_line_first l m (named, is) (inl (k, s, at, again, is')) = let le : raw.line ≤ s.line = well.name_first k s at in omega arith
  name_line_first l m (named, is) (inr (k, t, at, again, is')) =
      let (s, at') = there raw.source 0 well.source.some in
      let le : raw.line ≤ s.line = well.name_first 0 s at' in
      let le' : s.line ≤ t.line = well.source_first 0 k s t at' at in
      omega arith

  pub duplicate_name : HasNameOf earlier raw.name → IsFirstLine (DuplicateAt earlier raw) raw.line
  duplicate_name named = first_left (λ l. HasNameOf earlier raw.name × (raw.line ≡ l)) Again raw.line ((named, refl), λ other h. omega (arith, h.1)) name_line_first

  -- the answer of a loop over these statements
  abbrev Finds : List RawStatement → Option ℕ → Type 0
  Finds half found = IsFirst (StandsAt half (AssignsAgain half)) found

  pub duplicate_source : ¬ HasNameOf earlier raw.name → (half : List RawStatement) (found : Option ℕ) (line : ℕ) → half ≡ raw.source → Finds half found → found ≡ Some line → IsFirstLine (DuplicateAt earlier raw) line
  duplicate_source unnamed half found line is finds some =
      let first : IsFirstLine (StandsAt raw.source (AssignsAgain raw.source)) line = subst (λ o. Finds raw.source o) some (subst (λ ss. Finds ss found) is finds) in
      first_right (λ l. HasNameOf earlier raw.name × (raw.line ≡ l)) Again line (λ l h. unnamed h.0)
      (first_left (StandsAt raw.source (AssignsAgain raw.source)) (StandsAt raw.target (AssignsAgain raw.target)) line first (lines_before raw.source raw.target (AssignsAgain raw.source) (AssignsAgain raw.target) well.source_first))

  duplicate_rest : ¬ HasNameOf earlier raw.name → ((line : ℕ) → ¬ StandsAt raw.source (AssignsAgain raw.source) line) → (found : Option ℕ) → Finds raw.target found → IsFirst (DuplicateAt earlier raw) found
  duplicate_rest unnamed none None none' =
      first_none_of (λ l. HasNameOf earlier raw.name × (raw.line ≡ l)) Again (λ l h. unnamed h.0) (first_none_of (StandsAt raw.source (AssignsAgain raw.source)) (StandsAt raw.target (AssignsAgain raw.target)) none none')
  duplicate_rest unnamed none (Some line) first =
      first_right (λ l. HasNameOf earlier raw.name × (raw.line ≡ l)) Again line (λ l h. unnamed h.0) (first_right (StandsAt raw.source (AssignsAgain raw.source)) (StandsAt raw.target (AssignsAgain raw.target)) line none first)

  pub duplicate_target : ¬ HasNameOf earlier raw.name → (half other : List RawStatement) (before found : Option ℕ) → half ≡ raw.source → Finds half before → before ≡ None → other ≡ raw.target → Finds other found → IsFirst (DuplicateAt earlier raw) found
  duplicate_target unnamed half other before found is finds none is' finds' =
      duplicate_rest unnamed (subst (λ o. Finds raw.source o) none (subst (λ ss. Finds ss before) is finds)) found (subst (λ ss. Finds ss found) is' finds')

module _ (raw : RawRule) (well : IsWellFormed raw) where
  -- the test whether this is the name of the root
  pub tested_root : (half : List RawStatement) (t : RawStatement) (name : List ℕ) (b : Bool) → half ≡ raw.source → name ≡ t.name → (IsTrue b → IsRoot half name) × (IsRoot half name → IsTrue b) → (IsTrue b → IsRoot raw.source t.name) × (IsRoot raw.source t.name → IsTrue b)
  tested_root half t name b is is' says = subst (λ n. (IsTrue b → IsRoot raw.source n) × (IsRoot raw.source n → IsTrue b)) is' (subst (λ ss. (IsTrue b → IsRoot ss name) × (IsRoot ss name → IsTrue b)) is says)

  -- the loop's last statement is the target's
  pub root_there : (last : ℕ) (t : RawStatement) → suc last ≡ length raw.target → slice_get raw.target last ≡ Some t → IsRoot raw.source t.name → (line : ℕ) → ¬ RootMissingAt raw line
  root_there last t end at root line (k, s, at', (end', not_root), is) =
      let e : k ≡ last = omega arith in
      let same : t ≡ s = same_at raw.target last t s at (subst (λ i. slice_get raw.target i ≡ Some s) e at') in
      not_root (subst (λ (x : RawStatement). IsRoot raw.source x.name) same root)

  pub root_missed : (last : ℕ) (t : RawStatement) → suc last ≡ length raw.target → slice_get raw.target last ≡ Some t → ¬ IsRoot raw.source t.name → IsFirstLine (RootMissingAt raw) t.line
  root_missed last t end at not_root = first_here raw.target (MissesRoot raw) last t well.target.in_order (λ k s lt at' (end', _). absurd (omega arith)) at (end, not_root)

-- a name is a temporary's where a statement before the last assigns it
pub temporary_is : (source : List RawStatement) (name : List ℕ) → 0 < length source → (AssignedBefore source (length source - 1) name → IsTemporary source name) × (IsTemporary source name → AssignedBefore source (length source - 1) name)
temporary_is source name some = (λ (k, lt, at). (k, (omega arith), at), λ (k, lt, at). (k, (omega arith), at))

-- a test for P is one for an equivalent Q
pub says_as : (b : Bool) (P Q : Type 0) → (IsTrue b → P) × (P → IsTrue b) → (P → Q) × (Q → P) → (IsTrue b → Q) × (Q → IsTrue b)
says_as b P Q h k = (λ t. k.0 (h.0 t), λ q. h.1 (k.1 q))
