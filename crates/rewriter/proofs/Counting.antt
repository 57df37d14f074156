-- Statements that become instructions, counted and in order.
use Rattle.rewriter.proofs.Common.{◌≡◌, ℕ, ◌+◌, ◌<◌, ◌≤◌, Bool, true, false, not, List, [], ◌∷◌, ◌++◌, length, length-append, take, None, Some, refl, sym, ap, ◌∙◌, arith, get_or, flat_map, append_assoc, append-nil, slice_get, flat_map-append, take_more, take_all, count_by_more_yes, count_by_more_no, slice_get-get_or, Name, Inst, in_turn, Rule, Statement, in_turn-step, in_turn-length, Binding, is_copy, count_put, result_put, results_put, insts_with, insts_put}
use Rattle.ir_core.specs.declared.operand.Operand.{Operand}

module _ (rule : Rule) (binding : Binding) where
  -- the operands for the registers of the first i target statements, and how many of these become instructions
  pub record ArePut (i : ℕ) (results : List Operand) (count : ℕ) : Type 0 where
    pub are : results ≡ in_turn (result_put rule binding) [] (take i rule.target)
    pub size : length results ≡ i
    pub counted : count ≡ count_put (take i rule.target)
    pub few : count ≤ i

  put_more : (i : ℕ) (results : List Operand) (count more : ℕ) (result : Operand) (s : Statement) → ArePut i results count → i < length rule.target → s ≡ get_or rule.target i s → result ≡ result_put rule binding results s
      → more ≡ count_put (take (i + 1) rule.target) → more ≤ i + 1 → ArePut (i + 1) (results ++ result ∷ []) more
  put_more i results count more result s p within read is counts few =
      let at : slice_get rule.target i ≡ Some s = slice_get-get_or rule.target i s within ∙ ap (λ (x : Statement). Some x) (sym read) in
      let before : List Operand = in_turn (result_put rule binding) [] (take i rule.target) in
      let size = p.size in
      record {
        are = ap (λ l. l ++ result ∷ []) p.are ∙ ap (λ r. before ++ r ∷ []) (is ∙ ap (λ l. result_put rule binding l s) p.are) ∙ sym (in_turn-step (result_put rule binding) rule.target i s at);
        size = omega (arith, length-append results (result ∷ []));
        counted = counts;
        few = few;
      }

  abbrev IsPut : Statement → Bool
  IsPut s = not (is_copy s.op)

  pub put_copied : (i : ℕ) (results : List Operand) (count : ℕ) (result : Operand) (s : Statement) → ArePut i results count → i < length rule.target → s ≡ get_or rule.target i s → result ≡ result_put rule binding results s
      → is_copy s.op ≡ true → ArePut (i + 1) (results ++ result ∷ []) count
  put_copied i results count result s p within read is copied =
      let few = p.few in
      put_more i results count count result s p within read is (p.counted ∙ sym (count_by_more_no IsPut rule.target i s within (ap IsPut (sym read) ∙ ap not copied))) (omega arith)

  pub put_other : (i : ℕ) (results : List Operand) (count : ℕ) (result : Operand) (s : Statement) → ArePut i results count → i < length rule.target → s ≡ get_or rule.target i s → result ≡ result_put rule binding results s
      → is_copy s.op ≡ false → ArePut (i + 1) (results ++ result ∷ []) (count + 1)
  put_other i results count result s p within read is other =
      let few = p.few in
      put_more i results count (count + 1) result s p within read is (ap (λ n. n + 1) p.counted ∙ sym (count_by_more_yes IsPut rule.target i s within (ap IsPut (sym read) ∙ ap not other))) (omega arith)

  -- the operands for all of them
  pub all_put : (i : ℕ) (results : List Operand) (count : ℕ) → ArePut i results count → length rule.target ≤ i → results ≡ results_put rule binding
  all_put i results count p past = p.are ∙ ap (in_turn (result_put rule binding) []) (take_all i rule.target past)

  pub results-length : length (results_put rule binding) ≡ length rule.target
  results-length = omega (arith, in_turn-length (result_put rule binding) [] rule.target)

  -- ---- the instructions

  -- the instructions of all statements but the last one are unnamed
  pub insts_in_order : (name : Name) (before : List Statement) (s : Statement) → insts_put rule binding name (before ++ s ∷ []) ≡ flat_map (insts_with rule binding None) before ++ insts_with rule binding name s
  insts_in_order name [] s = refl
  insts_in_order name (t ∷ []) s = ap (λ l. l ++ insts_with rule binding name s) (sym (append-nil (insts_with rule binding None t)))
  insts_in_order name (t ∷ u ∷ before) s =
      ap (λ l. insts_with rule binding None t ++ l) (insts_in_order name (u ∷ before) s)
      ∙ sym (append_assoc (insts_with rule binding None t) (flat_map (insts_with rule binding None) (u ∷ before)) (insts_with rule binding name s))

  -- the instructions of the first i statements, and of one more
  pub insts_more : (i : ℕ) (statements : List Statement) (s : Statement) (insts more : List Inst) → i < length statements → s ≡ get_or statements i s → insts ≡ flat_map (insts_with rule binding None) (take i statements)
      → more ≡ insts ++ insts_with rule binding None s → more ≡ flat_map (insts_with rule binding None) (take (i + 1) statements)
  insts_more i statements s insts more within read are is =
      is ∙ ap (λ l. l ++ insts_with rule binding None s) are
      ∙ ap (λ l. flat_map (insts_with rule binding None) (take i statements) ++ l) (sym (append-nil (insts_with rule binding None s)))
      ∙ sym (flat_map-append (insts_with rule binding None) (take i statements) (s ∷ []))
      ∙ ap (λ l. flat_map (insts_with rule binding None) l) (ap (λ x. take i statements ++ x ∷ []) read ∙ sym (take_more statements i s within))

  pub all_insts : (name : Name) (last : ℕ) (statements : List Statement) (s : Statement) (insts all : List Inst) → last + 1 ≡ length rule.target → statements ≡ take last rule.target → s ≡ get_or rule.target last s
      → insts ≡ flat_map (insts_with rule binding None) statements → all ≡ insts ++ insts_with rule binding name s → all ≡ insts_put rule binding name rule.target
  all_insts name last statements s insts all count before read are is =
      let whole : rule.target ≡ statements ++ s ∷ [] = sym (take_all (last + 1) rule.target (omega arith)) ∙ take_more rule.target last s (omega arith) ∙ ap (λ l. l ++ get_or rule.target last s ∷ []) (sym before) ∙ ap (λ x. statements ++ x ∷ []) (sym read) in
      is ∙ ap (λ l. l ++ insts_with rule binding name s) are ∙ sym (insts_in_order name statements s) ∙ ap (insts_put rule binding name) (sym whole)
