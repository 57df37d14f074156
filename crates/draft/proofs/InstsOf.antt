-- The instructions of a draft's function by position: those whose numbers stand.
use Rattle.draft.proofs.Common.{◌≡◌, ℕ, zero, suc, ◌<◌, List, [], ◌∷◌, ◌++◌, length, map, Option, None, Some, refl, sym, ap, ◌∙◌, Contains, slice_get, option_to_list, same_Some, Block, Inst, first_in, later_in, some_at, Substitution, substituted_inst, insts_of, block_of, blocks_of}

-- a function of two values, if there are both
abbrev pub both : {A B C : Type 0} → (A → B → C) → Option A → Option B → Option C
both f None y = None
both f (Some x) None = None
both f (Some x) (Some y) = Some (f x y)

pub both_none : {A B C : Type 0} (f : A → B → C) (x : Option A) → both f x None ≡ None
both_none f None = refl
both_none f (Some x) = refl

pub get_blocks : (to : Substitution) (rows : List (List ℕ)) (blocks : List Block) (b : ℕ) → slice_get (blocks_of to rows blocks) b ≡ both (block_of to) (slice_get rows b) (slice_get blocks b)
get_blocks to [] blocks b = refl
get_blocks to (row ∷ rows) [] b = sym (both_none (block_of to) (slice_get (row ∷ rows) b))
get_blocks to (row ∷ rows) (block ∷ blocks) zero = refl
get_blocks to (row ∷ rows) (block ∷ blocks) (suc b) = get_blocks to rows blocks b

-- each number is that of an instruction
abbrev pub AreNumbersOf : List Inst → List ℕ → Type 0
AreNumbersOf insts row = (n : ℕ) → Contains row n → n < length insts

module _ (to : Substitution) (insts : List Inst) where
  pub insts_more : (n : ℕ) (row : List ℕ) (i : Inst) → slice_get insts n ≡ Some i → insts_of to insts (n ∷ row) ≡ substituted_inst to i ∷ insts_of to insts row
  insts_more n row i at = ap (λ (o : Option Inst). map (substituted_inst to) (option_to_list o) ++ insts_of to insts row) at

  pub insts_append : (xs ys : List ℕ) → insts_of to insts (xs ++ ys) ≡ insts_of to insts xs ++ insts_of to insts ys
  insts_append [] ys = refl
  insts_append (n ∷ xs) ys =
      ap (λ (l : List Inst). map (substituted_inst to) (option_to_list (slice_get insts n)) ++ l) (insts_append xs ys)
      ∙ assoc (map (substituted_inst to) (option_to_list (slice_get insts n))) (insts_of to insts xs) (insts_of to insts ys)
    where
      assoc : (a b c : List Inst) → a ++ (b ++ c) ≡ (a ++ b) ++ c
      assoc [] b c = refl
      assoc (x ∷ a) b c = ap (λ (l : List Inst). x ∷ l) (assoc a b c)

  first_number : (n : ℕ) (row : List ℕ) → AreNumbersOf insts (n ∷ row) → (i : Inst) × (slice_get insts n ≡ Some i)
  first_number n row all = some_at insts n (all n (first_in n row))

  pub rest_numbers : (n : ℕ) (row : List ℕ) → AreNumbersOf insts (n ∷ row) → AreNumbersOf insts row
  rest_numbers n row all = λ m has. all m (later_in n row m has)

  pub length-insts_of : (row : List ℕ) → AreNumbersOf insts row → length (insts_of to insts row) ≡ length row
  length-insts_of [] all = refl
  length-insts_of (n ∷ row) all =
      let (i, at) = first_number n row all in
      ap length (insts_more n row i at) ∙ ap suc (length-insts_of row (rest_numbers n row all))

  -- the instruction at a position is that of the number there
  pub inst_at : (row : List ℕ) (k n : ℕ) (i : Inst) → AreNumbersOf insts row → slice_get row k ≡ Some n → slice_get insts n ≡ Some i → slice_get (insts_of to insts row) k ≡ Some (substituted_inst to i)
  inst_at [] k n i all at is = absurd cc
  inst_at (m ∷ row) zero n i all at is =
      let same : m ≡ n = same_Some m n at in
      ap (λ (l : List Inst). slice_get l 0) (insts_more m row i (ap (slice_get insts) same ∙ is))
  inst_at (m ∷ row) (suc k) n i all at is =
      let (x, here) = first_number m row all in
      ap (λ (l : List Inst). slice_get l (suc k)) (insts_more m row x here) ∙ inst_at row k n i (rest_numbers m row all) at is

  -- and the other way round
  pub inst_from : (row : List ℕ) (k : ℕ) (new : Inst) → AreNumbersOf insts row → slice_get (insts_of to insts row) k ≡ Some new
      → (n : ℕ) × (i : Inst) × (slice_get row k ≡ Some n) × (slice_get insts n ≡ Some i) × (substituted_inst to i ≡ new)
  inst_from [] k new all at = absurd cc
  inst_from (m ∷ row) zero new all at =
      let (x, here) = first_number m row all in
      (m, x, refl, here, same_Some (substituted_inst to x) new (sym (ap (λ (l : List Inst). slice_get l 0) (insts_more m row x here)) ∙ at))
  inst_from (m ∷ row) (suc k) new all at =
      let (x, here) = first_number m row all in
      let rest = inst_from row k new (rest_numbers m row all) (sym (ap (λ (l : List Inst). slice_get l (suc k)) (insts_more m row x here)) ∙ at) in
      (rest.0, rest.1, rest.2, rest.3, rest.4)
