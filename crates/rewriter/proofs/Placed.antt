-- At which places the instructions of target statements are inserted.
use Rattle.rewriter.proofs.Common.{◌≡◌, ℕ, zero, suc, ◌+◌, ◌⊎◌, inl, inr, true, false, List, [], ◌∷◌, ◌++◌, length, Some, None, refl, sym, ap, subst, ◌∙◌, arith, append-nil, add-zero, slice_get, same_Some, Name, Inst, Rule, Statement, Binding, is_copy, class_width, insts_of_op, insts_with, insts_put}
use Rattle.rewriter.proofs.Putting.{IsNoCopy, put_before, count_more, count_same, put_inst, insts_are, insts_none}

first_or : {X : Type 0} (x : X) (xs : List X) (i : ℕ) (y : X) → slice_get (x ∷ xs) i ≡ Some y → ((i ≡ 0) × (y ≡ x)) ⊎ ((j : ℕ) × (i ≡ suc j) × (slice_get xs j ≡ Some y))
first_or x xs zero y at = inl (refl, sym (same_Some x y at))
first_or x xs (suc i) y at = inr (i, refl, at)

module _ (rule : Rule) (binding : Binding) where
  -- the instruction of a target statement that is no copy; only the last statement's may have a name
  pub record PutFor (own : Name) (t i : ℕ) (inst : Inst) : Type 0 where
    pub place : ℕ
    pub statement : Statement
    pub is_statement : slice_get rule.target place ≡ Some statement
    pub kept : IsNoCopy statement.op
    pub count : put_before rule binding place ≡ put_before rule binding t + i
    pub name : Name
    pub named : (name ≡ None) ⊎ ((name ≡ own) × (suc place ≡ length rule.target))
    pub is : inst ≡ put_inst rule binding name (class_width rule binding statement.class) statement.op

  -- the instructions of a statement come before those of the statements behind it, and have no name if there are such
  apart : (own : Name) (s : Statement) (statements : List Statement)
      → (name : Name) × (insts_put rule binding own (s ∷ statements) ≡ insts_with rule binding name s ++ insts_put rule binding own statements) × ((name ≡ None) ⊎ ((name ≡ own) × (statements ≡ [])))
  apart own s [] = (own, sym (append-nil (insts_with rule binding own s)), inr (refl, refl))
  apart own s (t ∷ statements) = (None, refl, inl refl)

  pub Aligned : List Statement → ℕ → Type 0
  Aligned statements t = ((i : ℕ) (s : Statement) → slice_get statements i ≡ Some s → slice_get rule.target (t + i) ≡ Some s) × (t + length statements ≡ length rule.target)

  aligned_here : (s : Statement) (statements : List Statement) (t : ℕ) → Aligned (s ∷ statements) t → slice_get rule.target t ≡ Some s
  unfolding Aligned
  aligned_here s statements t align = subst (λ n. slice_get rule.target n ≡ Some s) (omega arith) (align.0 0 s refl)

  aligned_next : (s : Statement) (statements : List Statement) (t : ℕ) → Aligned (s ∷ statements) t → Aligned statements (suc t)
  unfolding Aligned
  aligned_next s statements t align = (λ i x h. subst (λ n. slice_get rule.target n ≡ Some x) (omega arith) (align.0 (suc i) x h), let e : t + suc (length statements) ≡ length rule.target = align.1 in omega arith)

  aligned_last : (s : Statement) (t : ℕ) (statements : List Statement) → statements ≡ [] → Aligned (s ∷ statements) t → suc t ≡ length rule.target
  unfolding Aligned
  aligned_last s t statements none align = let e : t + suc (length statements) ≡ length rule.target = align.1 in let z : length statements ≡ 0 = ap length none in omega arith

  later : (own : Name) (t i j : ℕ) (inst : Inst) → put_before rule binding (suc t) + j ≡ put_before rule binding t + i → PutFor own (suc t) j inst → PutFor own t i inst
  later own t i j inst same p = record { place = p.place; statement = p.statement; is_statement = p.is_statement; kept = p.kept; count = p.count ∙ same; name = p.name; named = p.named; is = p.is }

  -- each inserted instruction is that of a statement
  pub put_from : (own : Name) (statements : List Statement) (t : ℕ) → Aligned statements t → (i : ℕ) (inst : Inst) → slice_get (insts_put rule binding own statements) i ≡ Some inst → PutFor own t i inst
  put_from own [] t align i inst at = absurd cc
  put_from own (s ∷ statements) t align i inst at =
      let here : slice_get rule.target t ≡ Some s = aligned_here s statements t align in
      let parts = apart own s statements in
      let N : ℕ = class_width rule binding s.class in
      let split : slice_get (insts_of_op rule binding parts.0 N s.op ++ insts_put rule binding own statements) i ≡ Some inst = ap (λ (l : List Inst). slice_get l i) (sym parts.1) ∙ at in
      elim (is_copy s.op) as (λ b. is_copy s.op ≡ b → PutFor own t i inst) [
        | true ↦ λ copies.
            let rest : slice_get (insts_put rule binding own statements) i ≡ Some inst = subst (λ (l : List Inst). slice_get (l ++ insts_put rule binding own statements) i ≡ Some inst) (insts_none rule binding parts.0 N s.op copies) split in
            later own t i i inst (ap (λ n. n + i) (count_same rule binding t s here copies)) (put_from own statements (suc t) (aligned_next s statements t align) i inst rest)
        | false ↦ λ kept.
            let rest : slice_get (put_inst rule binding parts.0 N s.op ∷ insts_put rule binding own statements) i ≡ Some inst = subst (λ (l : List Inst). slice_get (l ++ insts_put rule binding own statements) i ≡ Some inst) (insts_are rule binding parts.0 N s.op kept) split in
            elim (first_or (put_inst rule binding parts.0 N s.op) (insts_put rule binding own statements) i inst rest) [
              | inl first ↦ record {
                place = t;
                statement = s;
                is_statement = here;
                kept = kept;
                count = let z : i ≡ 0 = first.0 in omega arith;
                name = parts.0;
                named = elim parts.2 [ inl none ↦ inl none | inr is ↦ inr (is.0, aligned_last s t statements is.1 align) ];
                is = first.1;
              }
              | inr behind ↦
                  let more : put_before rule binding (suc t) ≡ suc (put_before rule binding t) = count_more rule binding t s here kept in
                  let z : i ≡ suc behind.0 = behind.1 in
                  later own t i behind.0 inst (omega arith) (put_from own statements (suc t) (aligned_next s statements t align) behind.0 inst behind.2)
            ]
      ] refl

  -- as many are inserted as there are statements that are no copies
  pub put_length : (own : Name) (statements : List Statement) (t : ℕ) → Aligned statements t → put_before rule binding t + length (insts_put rule binding own statements) ≡ put_before rule binding (t + length statements)
  put_length own [] t align = let e : put_before rule binding (t + 0) ≡ put_before rule binding t = ap (put_before rule binding) (add-zero t) in omega arith
  put_length own (s ∷ statements) t align =
      let here : slice_get rule.target t ≡ Some s = aligned_here s statements t align in
      let parts = apart own s statements in
      let N : ℕ = class_width rule binding s.class in
      let rest : List Inst = insts_put rule binding own statements in
      let more : put_before rule binding (suc t) + length rest ≡ put_before rule binding (suc t + length statements) = put_length own statements (suc t) (aligned_next s statements t align) in
      let further : put_before rule binding (suc t + length statements) ≡ put_before rule binding (t + suc (length statements)) = ap (put_before rule binding) (omega arith) in
      let whole : length (insts_put rule binding own (s ∷ statements)) ≡ length (insts_of_op rule binding parts.0 N s.op ++ rest) = ap length parts.1 in
      elim (is_copy s.op) as (λ b. is_copy s.op ≡ b → put_before rule binding t + length (insts_put rule binding own (s ∷ statements)) ≡ put_before rule binding (t + suc (length statements))) [
        | true ↦ λ copies.
            let none : length (insts_of_op rule binding parts.0 N s.op ++ rest) ≡ length rest = ap (λ (l : List Inst). length (l ++ rest)) (insts_none rule binding parts.0 N s.op copies) in
            let same : put_before rule binding (suc t) ≡ put_before rule binding t = count_same rule binding t s here copies in
            omega arith
        | false ↦ λ kept.
            let one : length (insts_of_op rule binding parts.0 N s.op ++ rest) ≡ suc (length rest) = ap (λ (l : List Inst). length (l ++ rest)) (insts_are rule binding parts.0 N s.op kept) in
            let same : put_before rule binding (suc t) ≡ suc (put_before rule binding t) = count_more rule binding t s here kept in
            omega arith
      ] refl

  -- and each statement that is no copy has its instruction there
  pub put_at : (own : Name) (statements : List Statement) (t : ℕ) → Aligned statements t → (q : ℕ) (s : Statement) → slice_get statements q ≡ Some s → IsNoCopy s.op
      → (name : Name) × (i : ℕ) × (put_before rule binding t + i ≡ put_before rule binding (t + q)) × (slice_get (insts_put rule binding own statements) i ≡ Some (put_inst rule binding name (class_width rule binding s.class) s.op))
  put_at own [] t align q s at kept = absurd cc
  put_at own (x ∷ statements) t align zero s at kept =
      let same : x ≡ s = same_Some x s at in
      let parts = apart own x statements in
      let N : ℕ = class_width rule binding s.class in
      let one : slice_get (insts_of_op rule binding parts.0 N s.op ++ insts_put rule binding own statements) 0 ≡ Some (put_inst rule binding parts.0 N s.op) =
      ap (λ (l : List Inst). slice_get (l ++ insts_put rule binding own statements) 0) (insts_are rule binding parts.0 N s.op kept) in
      let there : slice_get (insts_with rule binding parts.0 x ++ insts_put rule binding own statements) 0 ≡ Some (put_inst rule binding parts.0 N s.op) = subst (λ (y : Statement). slice_get (insts_with rule binding parts.0 y ++ insts_put rule binding own statements) 0 ≡ Some (put_inst rule binding parts.0 N s.op)) (sym same) one in
      (parts.0, 0, let e : put_before rule binding (t + 0) ≡ put_before rule binding t = ap (put_before rule binding) (add-zero t) in omega arith, ap (λ (l : List Inst). slice_get l 0) parts.1 ∙ there)
  put_at own (x ∷ statements) t align (suc q) s at kept =
      let here : slice_get rule.target t ≡ Some x = aligned_here x statements t align in
      let parts = apart own x statements in
      let N : ℕ = class_width rule binding x.class in
      let rest : List Inst = insts_put rule binding own statements in
      let r = put_at own statements (suc t) (aligned_next x statements t align) q s at kept in
      let place : put_before rule binding (suc t) + r.1 ≡ put_before rule binding (suc t + q) = r.2 in
      let further : put_before rule binding (suc t + q) ≡ put_before rule binding (t + suc q) = ap (put_before rule binding) (omega arith) in
      let inst : Inst = put_inst rule binding r.0 (class_width rule binding s.class) s.op in
      elim (is_copy x.op) as (λ b. is_copy x.op ≡ b → (name : Name) × (i : ℕ) × (put_before rule binding t + i ≡ put_before rule binding (t + suc q)) × (slice_get (insts_put rule binding own (x ∷ statements)) i ≡ Some (put_inst rule binding name (class_width rule binding s.class) s.op))) [
        | true ↦ λ copies.
            let same : put_before rule binding (suc t) ≡ put_before rule binding t = count_same rule binding t x here copies in
            (r.0, r.1, omega arith, ap (λ (l : List Inst). slice_get l r.1) parts.1 ∙ (ap (λ (l : List Inst). slice_get (l ++ rest) r.1) (insts_none rule binding parts.0 N x.op copies) ∙ r.3))
        | false ↦ λ own_kept.
            let more : put_before rule binding (suc t) ≡ suc (put_before rule binding t) = count_more rule binding t x here own_kept in
            (r.0, suc r.1, omega arith, ap (λ (l : List Inst). slice_get l (suc r.1)) parts.1 ∙ (ap (λ (l : List Inst). slice_get (l ++ rest) (suc r.1)) (insts_are rule binding parts.0 N x.op own_kept) ∙ r.3))
      ] refl

  pub all_aligned : Aligned rule.target 0
  unfolding Aligned
  all_aligned = (λ i s h. subst (λ n. slice_get rule.target n ≡ Some s) (omega arith) h, omega arith)
