-- A rewrite of a draft is the rewrite of its function, where the rule matches in the function.
use Rattle.draft_steps.proofs.Common.{◌≡◌, ◌≢◌, ℕ, zero, suc, ◌+◌, ◌-◌, ◌<◌, ◌≤◌, inl, inr, cond, not, List, [], ◌∷◌, length, map, Option, None, Some, refl, sym, ap, subst, ◌∙◌, arith, Contains, flat_map, slice_get, slice_index_or, option_map, unwrap_or, range_with_len, option_map_or, cases_eq, sum_by-cons, same_Some, slice_get-map, slice_get_within, get_or_from_slice_get, unwrap_or-slice_get, IsBlock, IsInst, IsKnown, MeetsChecks, Name, end_of, Block, Function, Inst, Operand, Register, first_in, later_in, IsRule, Argument, Rule, Statement, flat_map-from, Knowledge, MatchesWhere, StandsFor, Binding, moved_binding, register_or, IsRewritten, class_width, count_put, insts_of_op, insts_put, insts_with, is_copy, Substitution, substituted_inst, substituted_operand, Rewrite, rewritten_function, instead, insts_of, placed, MayRead, put_for, rows_put_for, has_known, known_has, inst_from, HasInst, IsAssigned, IsBeforeRoot, operand_for, named_assigned, before_in_block, assignment_transitive, not_both_assigned, is_read}
use Rattle.std.proofs.lemmas.List.{length-append}
use Rattle.ir_core.specs.declared.operand.Operand.TheVariants as operands
use Rattle.ir_core.specs.declared.operand.Register.TheVariants as registers
use Rattle.ir_meaning.proofs.Pieces.{contains_at, place_in as place_among, some_at}
use Rattle.needed.specs.Operands.{operands_of as read_by}
use Rattle.rule_core.specs.Positions.{operands_of}
use Rattle.rule_core.specs.declared.rule.Argument.TheVariants as arguments
use Rattle.rule_core.specs.declared.rule.Op.{Op as RuleOp}
use Rattle.rule_core.specs.declared.rule.Op.TheVariants as rule_ops
use Rattle.rule_core.specs.declared.rule.Register.{Register as RuleName}
use Rattle.rule_core.specs.declared.rule.Register.TheVariants as names
use Rattle.rewriter.specs.Put as target
use Rattle.places.specs.Orders.{place_in}
use Rattle.draft_steps.specs.Rewriting.{numbered}
use Rattle.draft_steps.proofs.Instead.{instead_other}
use Rattle.draft_steps.proofs.Leaving.{function_at}
use Rattle.draft_steps.proofs.Needing.{AreRows, block_back, row_is}
use Rattle.draft_steps.proofs.Numbering.{Agrees, last_same, put_same_insts}
use Rattle.draft_steps.proofs.PutReads.{Closed, last_holds, put_reads}
use Rattle.draft_steps.proofs.Starting.{StandsThen, comes, no_root, stays}
use Rattle.draft_steps.proofs.PutFor.{low_place, lower, new_place, other_row, put_for_is}
use Rattle.draft_steps.proofs.RowPlaces.{at_place, contained, is_in}

lengths_same : {A B : Type 0} (h : A → B) (xs : List A) → length (map h xs) ≡ length xs
lengths_same h [] = refl
lengths_same h (x ∷ xs) = ap suc (lengths_same h xs)

range_has : (a l i : ℕ) → i < l → Contains (range_with_len a l) (a + i)
range_has a zero i lt = absurd (omega arith)
range_has a (suc l) zero lt = let here : a ≡ a + 0 = omega arith in subst (Contains (a ∷ range_with_len (a + 1) l)) here (first_in a (range_with_len (a + 1) l))
range_has a (suc l) (suc i) lt = let next : a + 1 + i ≡ a + suc i = omega arith in later_in a (range_with_len (a + 1) l) (a + suc i) (subst (Contains (range_with_len (a + 1) l)) next (range_has (a + 1) l i (omega arith)))

-- ---- as many instructions are inserted as the target has that are no copies

one_put : (rule : Rule) (m : Binding) (name : Name) (N : ℕ) (op : RuleOp) → length (insts_of_op rule m name N op) ≡ cond (not (is_copy op)) 1 0
one_put rule m name N (rule_ops.Binary opcode flags a b) = refl
one_put rule m name N (rule_ops.Compare pred samesign a b) = refl
one_put rule m name N (rule_ops.Unary op truth a) = refl
one_put rule m name N (rule_ops.Select c a b) = refl
one_put rule m name N (rule_ops.Convert cast flags a into) = refl
one_put rule m name N (rule_ops.Freeze a j) = refl
one_put rule m name N (rule_ops.Copy a) = refl

put_count : (rule : Rule) (m : Binding) (name : Name) (statements : List Statement) → length (insts_put rule m name statements) ≡ count_put statements
put_count rule m name [] = refl
put_count rule m name (s ∷ []) =
    one_put rule m name (class_width rule m s.class) s.op ∙ (by (cond (not (is_copy s.op)) 1 0) ∙ sym (sum_by-cons (λ (x : Statement). cond (not (is_copy x.op)) 1 0) s []))
  where
    by : (n : ℕ) → n ≡ n + 0
    by n = omega arith
put_count rule m name (s ∷ u ∷ statements) =
    length-append (insts_with rule m None s) (insts_put rule m name (u ∷ statements))
    ∙ (ap (λ k. k + length (insts_put rule m name (u ∷ statements))) (one_put rule m None (class_width rule m s.class) s.op)
    ∙ (ap (λ k. cond (not (is_copy s.op)) 1 0 + k) (put_count rule m name (u ∷ statements)) ∙ sym (sum_by-cons (λ (x : Statement). cond (not (is_copy x.op)) 1 0) s (u ∷ statements))))

module _ (rule : Rule) (f : Function) (rows : List (List ℕ)) (good : AreRows f rows) (m : Binding) where
  abbrev F : Function
  F = function_at f rows

  abbrev to : Substitution
  to = placed rows

  -- the numbers of the root's block
  abbrev row : List ℕ
  row = slice_index_or rows m.block []

  abbrev P : ℕ
  P = place_in row m.place

  abbrev pm : Binding
  pm = moved_binding to P m

  -- the operand is no result, or one of an instruction that stands, before the root if it is in the root's block
  abbrev IsLow : Operand → Type 0
  IsLow a = (c q : ℕ) → a ≡ operands.Register (registers.Result c q) → Contains (slice_index_or rows c []) q × (c ≡ m.block → place_in row q < P)

  module _ (checks : MeetsChecks F) (is_rule : IsRule rule) {Before : ℕ → ℕ → ℕ → ℕ → Type 0} {known : Knowledge} (is : MatchesWhere Before known F m.block P rule pm) where
    -- ---- the root

    -- the root stands, and is an instruction of the arena
    pub record IsRootIn : Type 0 where
      pub block : Block
      pub is_block : IsBlock f m.block block
      pub inst : Inst
      pub is_inst : slice_get block.insts m.place ≡ Some inst
      pub stands : Contains row m.place
      pub placed_inst : IsInst F m.block P (substituted_inst to inst)

    pub root_in : IsRootIn
    root_in =
        let last : ℕ = length rule.source - 1 in
        let some : 0 < length rule.source = is_rule.source_root in
        let is_last : suc last ≡ length rule.source = omega (arith, some) in
        let (s, is_statement) = some_at rule.source last (omega (arith, is_last)) in
        let h = is.statements last s is_statement in
        let at_root = h.matches.root is_last in
        let there : IsInst F m.block P h.inst = subst (λ (k : ℕ). IsInst F m.block k h.inst) at_root.1 (subst (λ (d : ℕ). IsInst F d h.place h.inst) at_root.0 h.is_inst) in
        let p = block_back f rows good m.block there.block there.is_block in
        let at : slice_get (insts_of to p.block.insts p.row) P ≡ Some h.inst = subst (λ (x : Block). slice_get x.insts P ≡ Some h.inst) (sym p.is) there.is_inst in
        let from = inst_from to p.block.insts p.row P h.inst (good.numbers m.block p.block p.row p.is_block p.at) at in
        let in_row : P < length p.row = slice_get_within p.row P from.0 from.2 in
        let stands : Contains row m.place = contained row m.place (subst (λ (l : List ℕ). P < length l) (sym (row_is rows m.block p.row p.at)) in_row) in
        let at_place_too : slice_get row P ≡ Some m.place = at_place row m.place (is_in row m.place stands) in
        let same : from.0 ≡ m.place = same_Some from.0 m.place (sym (ap (λ (l : List ℕ). slice_get l P) (row_is rows m.block p.row p.at) ∙ from.2) ∙ at_place_too) in
        record {
          block = p.block;
          is_block = p.is_block;
          inst = from.1;
          is_inst = subst (λ (k : ℕ). slice_get p.block.insts k ≡ Some from.1) same from.3;
          stands = stands;
          placed_inst = subst (IsInst F m.block P) (sym from.4) there;
        }

    -- ---- what the match names

    -- an instruction that is in the function stands
    stands_there : (c q : ℕ) → HasInst F c (place_in (slice_index_or rows c []) q) → Contains (slice_index_or rows c []) q
    stands_there c q (new, is_new, lt) =
        let k : ℕ = place_in (slice_index_or rows c []) q in
        let (inst, at) = some_at new.insts k lt in
        let p = block_back f rows good c new is_new in
        let from = inst_from to p.block.insts p.row k inst (good.numbers c p.block p.row p.is_block p.at) (subst (λ (x : Block). slice_get x.insts k ≡ Some inst) (sym p.is) at) in
        contained (slice_index_or rows c []) q (subst (λ (l : List ℕ). k < length l) (sym (row_is rows c p.row p.at)) (slice_get_within p.row k from.0 from.2))

    root_has : HasInst F m.block P
    root_has = let there = root_in.placed_inst in (there.block, there.is_block, slice_get_within there.block.insts P (substituted_inst to root_in.inst) there.is_inst)

    -- what it names is assigned at the root, so it is of an instruction that stands, and before the root in its block
    named_low : (name : RuleName) (a : Operand) → IsBeforeRoot rule name → operand_for pm name ≡ Some (substituted_operand to a) → IsLow a
    named_low name a before bound c q same =
        let reg : Register = registers.Result c (place_in (slice_index_or rows c []) q) in
        let assigned : IsAssigned F reg m.block P = named_assigned assignment_transitive F m.block P rule pm checks is_rule is name reg before (bound ∙ ap (λ (x : Operand). Some (substituted_operand to x)) same) in (
          stands_there c q assigned.0,
          λ here. before_in_block not_both_assigned F m.block (place_in row q) P is.reached root_has
              (subst (λ (d : ℕ). IsAssigned F (registers.Result d (place_in (slice_index_or rows d []) q)) m.block P) here assigned),
        )

    put_input : (i : ℕ) (a : Operand) → slice_get m.inputs i ≡ Some a → slice_get (map (substituted_operand to) m.inputs) i ≡ Some (substituted_operand to a)
    put_input i a at = slice_get-map (substituted_operand to) m.inputs i ∙ ap (option_map (substituted_operand to)) at

    pub input_low : (i : ℕ) (a : Operand) → i < length rule.inputs → slice_get m.inputs i ≡ Some a → IsLow a
    input_low i a lt at = named_low (names.Input i) a lt (put_input i a at)

    -- the substitution gives a register for each
    is_register : (r : Register) → operands.Register (register_or r (to r)) ≡ to r
    is_register (registers.Parameter p) = refl
    is_register (registers.Result c q) = refl

    put_register : (j : ℕ) (r : Register) → slice_get m.statements j ≡ Some r → slice_get (map (λ r. register_or r (to r)) m.statements) j ≡ Some (register_or r (to r))
    put_register j r at = slice_get-map (λ r. register_or r (to r)) m.statements j ∙ ap (option_map (λ r. register_or r (to r))) at

    pub temporary_low : (j : ℕ) (r : Register) → suc j < length rule.source → slice_get m.statements j ≡ Some r → IsLow (operands.Register r)
    temporary_low j r early at = named_low (names.Source j) (operands.Register r) early (ap (option_map operands.Register) (put_register j r at) ∙ ap (λ (x : Operand). Some x) (is_register r))

    -- and it is known to the function
    pub input_known : (i : ℕ) (a : Operand) → i < length rule.inputs → slice_get m.inputs i ≡ Some a → IsKnown F (substituted_operand to a)
    input_known i a lt at =
        let (x, (o, at_x, names_it)) = is_rule.inputs_read i lt in
        let (j, s, is_statement, among) = flat_map-from (λ (s : Statement). operands_of s.op) rule.source o (contains_at (flat_map (λ (s : Statement). operands_of s.op) rule.source) x o at_x) in
        let h = is.statements j s is_statement in
        let (n, there) = place_among (operands_of s.op) o among in
        let (r, read_there) = is_read F h.block h.place h.inst s.op h.is_inst h.matches.operation n o there in
        let matched = h.matches.operands n o r there read_there in
        let bound : StandsFor pm r.width (arguments.Register (names.Input i)) r.operand = subst (λ (a : Argument). StandsFor pm r.width a r.operand) names_it matched.value in
        subst (IsKnown F) (same_Some r.operand (substituted_operand to a) (sym bound ∙ put_input i a at)) (checks.formed.registers h.block h.place n r read_there)

    pub temporary_known : (j : ℕ) (r : Register) → suc j < length rule.source → slice_get m.statements j ≡ Some r → IsKnown F (to r)
    temporary_known j r early at =
        let (s, is_statement) = some_at rule.source j (omega (arith, early)) in
        let h = is.statements j s is_statement in
        let same : register_or r (to r) ≡ registers.Result h.block h.place = same_Some (register_or r (to r)) (registers.Result h.block h.place) (sym (put_register j r at) ∙ h.bound) in
        let known : IsKnown F (operands.Register (registers.Result h.block h.place)) = has_known F h.block h.place (h.is_inst.block, h.is_inst.is_block, slice_get_within h.is_inst.block.insts h.place h.inst h.is_inst.is_inst) in
        subst (IsKnown F) (is_register r) (subst (λ (x : Register). IsKnown F (operands.Register x)) (sym same) known)

    -- ---- the inserted instructions

    module _ (name : Name) (root : IsRootIn) where
      abbrev w : Rewrite
      w = target.rewrite_of rule (numbered f m) name

      abbrev rows' : List (List ℕ)
      rows' = rows_put_for f rows w m.place

      abbrev sigma : Substitution
      sigma = instead (registers.Result m.block m.place) w.result

      abbrev g : Operand → Operand
      g a = substituted_operand (placed rows') (substituted_operand sigma a)

      -- as many are inserted as the target has that are no copies
      count : length w.put ≡ count_put rule.target
      count = put_count rule (numbered f m) name rule.target

      not_root : (c q : ℕ) → (c ≡ m.block → place_in row q < P) → ¬ (registers.Result c q ≡ registers.Result m.block m.place)
      not_root c q low e =
          let block : c ≡ m.block = cc in
          let number : q ≡ m.place = cc in
          above (place_in row q) P (ap (place_in row) number) (low block)
        where
          above : (p q : ℕ) → p ≡ q → p < q → ⊥
          above p q same lt = omega arith

      -- an operand from before the root has the same name in the new function
      low_same : (a : Operand) → IsLow a → g a ≡ substituted_operand to a
      low_same (operands.Register (registers.Result c q)) low =
          let (has, before) = low c q refl in
          ap (substituted_operand (placed rows')) (instead_other (registers.Result m.block m.place) w.result (registers.Result c q) (not_root c q before))
          ∙ ap (λ k. operands.Register (registers.Result c k)) (elim (cases_eq c m.block) [
            | inr ne ↦ ap (λ (l : List ℕ). place_in l q) (same_row c ne)
            | inl same ↦ subst (λ (d : ℕ). place_in (slice_index_or rows' d []) q ≡ place_in (slice_index_or rows d []) q) (sym same) (low_place f rows good m.block m.place (length w.put) root.block root.is_block root.stands q (before same))
          ])
        where
          same_row : (c : ℕ) → c ≢ m.block → slice_index_or rows' c [] ≡ slice_index_or rows c []
          same_row c ne = sym (unwrap_or-slice_get rows' c []) ∙ (ap (λ (o : Option (List ℕ)). unwrap_or o []) (other_row f rows good m.block m.place (length w.put) c ne) ∙ unwrap_or-slice_get rows c [])
      low_same (operands.Register (registers.Parameter p)) low = ap (substituted_operand (placed rows')) (instead_other (registers.Result m.block m.place) w.result (registers.Parameter p) (λ e. absurd cc))
      low_same (operands.Number n) low = refl
      low_same operands.Undef low = refl
      low_same operands.Poison low = refl

      agrees : Agrees rule m (end_of f m.block) P to g
      agrees = record {
        number = λ n. refl;
        undefined = refl;
        poison = refl;
        input = λ i lt.
            let within : i < length m.inputs = sized i lt in
            let (a, at) = some_at m.inputs i within in
            ap g (get_or_from_slice_get m.inputs i a operands.Poison at)
            ∙ (low_same a (input_low i a lt at) ∙ sym (get_or_from_slice_get (map (substituted_operand to) m.inputs) i (substituted_operand to a) operands.Poison (put_input i a at)));
        source = λ j early.
            let (r, at) = some_at m.statements j (bound j early) in
            ap (λ o. g (option_map_or operands.Register o operands.Poison)) at
            ∙ (low_same (operands.Register r) (temporary_low j r early at) ∙ (sym (is_register r) ∙ sym (ap (λ o. option_map_or operands.Register o operands.Poison) (put_register j r at))));
        result = λ j lt.
            let fits : j < length w.put = subst (λ (k : ℕ). j < k) (sym count) lt in
            ap (substituted_operand (placed rows')) (instead_other (registers.Result m.block m.place) w.result (registers.Result m.block (end_of f m.block + j)) (λ e.
            let number : end_of f m.block + j ≡ m.place = cc in
            past (end_of f m.block) j m.place number (lower f rows good m.block m.place (length w.put) root.block root.is_block root.stands m.place root.stands)))
            ∙ ap (λ k. operands.Register (registers.Result m.block k)) (new_place f rows good m.block m.place (length w.put) root.block root.is_block root.stands j fits);
      }
        where
          past : (e j n : ℕ) → e + j ≡ n → n < e → ⊥
          past e j n same lt = omega arith

          lengths : {A B : Type 0} (h : A → B) (xs : List A) → length (map h xs) ≡ length xs
          lengths h [] = refl
          lengths h (x ∷ xs) = ap suc (lengths h xs)

          sized : (i : ℕ) → i < length rule.inputs → i < length m.inputs
          sized i lt = let same : length (map (substituted_operand to) m.inputs) ≡ length rule.inputs = is.input_count in let also : length (map (substituted_operand to) m.inputs) ≡ length m.inputs = lengths (substituted_operand to) m.inputs in omega (arith, lt, same, also)

          bound : (j : ℕ) → suc j < length rule.source → j < length m.statements
          bound j early =
              let same : length (map (λ r. register_or r (to r)) m.statements) ≡ length rule.source = is.statement_count in
              let also : length (map (λ r. register_or r (to r)) m.statements) ≡ length m.statements = lengths (λ r. register_or r (to r)) m.statements in
              omega (arith, early, same, also)

      -- ---- what they read is of instructions that stand

      abbrev Stands : Operand → Type 0
      Stands = StandsThen f rows good m.block m.place w.put w.result root.block root.is_block root.stands

      low_stands : (a : Operand) → IsLow a → Stands a
      low_stands a low = λ c q same.
          let (has, before) = low c q same in
          let other : ¬ (registers.Result c q ≡ registers.Result m.block m.place) = not_root c q before in
          (stays f rows good m.block m.place w.put w.result root.block root.is_block root.stands c q has other, other)

      input_at : (i : ℕ) → i < length rule.inputs → (a : Operand) × (slice_get m.inputs i ≡ Some a)
      input_at i lt =
          let same : length (map (substituted_operand to) m.inputs) ≡ length rule.inputs = is.input_count in
          let also : length (map (substituted_operand to) m.inputs) ≡ length m.inputs = lengths_same (substituted_operand to) m.inputs in
          some_at m.inputs i (omega (arith, lt, same, also))

      source_at : (j : ℕ) → suc j < length rule.source → (r : Register) × (slice_get m.statements j ≡ Some r)
      source_at j early =
          let same : length (map (λ r. register_or r (to r)) m.statements) ≡ length rule.source = is.statement_count in
          let also : length (map (λ r. register_or r (to r)) m.statements) ≡ length m.statements = lengths_same (λ r. register_or r (to r)) m.statements in
          some_at m.statements j (omega (arith, early, same, also))

      source_is : (j : ℕ) (P' : Operand → Type 0) (r : Register) → slice_get m.statements j ≡ Some r → P' (operands.Register r) → P' (option_map_or operands.Register (slice_get m.statements j) operands.Poison)
      source_is j P' r at h = subst (λ (o : Option Register). P' (option_map_or operands.Register o operands.Poison)) (sym at) h

      input_is : (i : ℕ) (P' : Operand → Type 0) (a : Operand) → slice_get m.inputs i ≡ Some a → P' a → P' (slice_index_or m.inputs i operands.Poison)
      input_is i P' a at h = subst P' (sym (get_or_from_slice_get m.inputs i a operands.Poison at)) h

      closed_stand : Closed rule m (end_of f m.block) (λ k a. k ≤ length w.put → Stands a)
      closed_stand = record {
        more = λ j k a le h fits. h (omega (arith, le, fits));
        number = λ k n fits c q e. absurd cc;
        undefined = λ k fits c q e. absurd cc;
        poison = λ k fits c q e. absurd cc;
        input = λ k i lt fits. let (a, at) = input_at i lt in input_is i Stands a at (low_stands a (input_low i a lt at));
        source = λ k j early fits. let (r, at) = source_at j early in source_is j Stands r at (low_stands (operands.Register r) (temporary_low j r early at));
        result = λ k i lt fits c q e.
            let block : m.block ≡ c = cc in
            let number : end_of f m.block + i ≡ q = cc in
            let has : Contains (range_with_len (end_of f m.block) (length w.put)) (end_of f m.block + i) = range_has (end_of f m.block) (length w.put) i (omega (arith, lt, fits)) in
            let there : Contains (slice_index_or rows' m.block []) (end_of f m.block + i) = comes f rows good m.block m.place w.put w.result root.block root.is_block root.stands (end_of f m.block + i) has in
            let lower_root : m.place < end_of f m.block = lower f rows good m.block m.place (length w.put) root.block root.is_block root.stands m.place root.stands in (
              subst (λ (d : ℕ). Contains (slice_index_or rows' d []) q) block (subst (Contains (slice_index_or rows' m.block [])) number there),
              λ it. let number_is : q ≡ m.place = cc in clash (end_of f m.block) i q m.place number number_is lower_root,
            );
      }
        where
          clash : (e i q n : ℕ) → e + i ≡ q → q ≡ n → n < e → ⊥
          clash e i q n a c lt = omega arith

      pub put_stand : (j : ℕ) (i : Inst) → slice_get w.put j ≡ Some i → (a : Operand) → Contains (read_by i.op) a → Stands a
      put_stand j i at a reads = put_reads rule m (end_of f m.block) (λ k a. k ≤ length w.put → Stands a) is_rule closed_stand name j i at a reads (let lt : j < length w.put = slice_get_within w.put j i at in omega (arith, lt))

      pub result_stands : Stands w.result
      result_stands = last_holds rule m (end_of f m.block) (λ k a. k ≤ length w.put → Stands a) is_rule closed_stand (let same : length w.put ≡ count_put rule.target = count in omega (arith, same))

      pub not_own : w.result ≢ operands.Register (registers.Result m.block m.place)
      not_own = no_root f rows good m.block m.place w.put w.result root.block root.is_block root.stands put_stand result_stands

      -- ---- and it is known

      low_known : (a : Operand) → IsLow a → IsKnown F (substituted_operand to a) → IsKnown f a
      low_known (operands.Register (registers.Result c q)) low known =
          let (new, is_new, lt) = known_has F c (place_in (slice_index_or rows c []) q) known in
          let p = block_back f rows good c new is_new in
          let has : Contains p.row q = subst (λ (l : List ℕ). Contains l q) (row_is rows c p.row p.at) (low c q refl).0 in
          has_known f c q (p.block, p.is_block, good.numbers c p.block p.row p.is_block p.at q has)
      low_known (operands.Register (registers.Parameter p)) low known = known
      low_known (operands.Number n) low known = tt
      low_known operands.Undef low known = tt
      low_known operands.Poison low known = tt

      closed_known : Closed rule m (end_of f m.block) (MayRead f m.block)
      closed_known = record {
        more = λ j k a le h. elim h [ inl known ↦ inl known | inr (i, lt, e) ↦ inr (i, omega (arith, le, lt), e) ];
        number = λ k n. inl tt;
        undefined = λ k. inl tt;
        poison = λ k. inl tt;
        input = λ k i lt. let (a, at) = input_at i lt in input_is i (MayRead f m.block k) a at (inl (low_known a (input_low i a lt at) (input_known i a lt at)));
        source = λ k j early.
            let (r, at) = source_at j early in
            source_is j (MayRead f m.block k) r at (inl (low_known (operands.Register r) (temporary_low j r early at) (temporary_known j r early at)));
        result = λ k i lt. inr (i, lt, refl);
      }

      pub put_known : (j : ℕ) (i : Inst) → slice_get w.put j ≡ Some i → (a : Operand) → Contains (read_by i.op) a → MayRead f m.block j a
      put_known j i at a reads = put_reads rule m (end_of f m.block) (MayRead f m.block) is_rule closed_known name j i at a reads

      pub result_known : MayRead f m.block (length w.put) w.result
      result_known = subst (λ (k : ℕ). MayRead f m.block k w.result) (sym count) (last_holds rule m (end_of f m.block) (MayRead f m.block) is_rule closed_known)

      -- The result isn't the root's register.
      module _ (other : w.result ≢ operands.Register (registers.Result m.block m.place)) where
        result_same : substituted_operand (placed rows') w.result ≡ (target.rewrite_of rule pm name).result
        result_same = ap (substituted_operand (placed rows')) (sym (unchanged w.result other)) ∙ last_same rule m (end_of f m.block) P to g is_rule agrees
          where
            unchanged : (a : Operand) → a ≢ operands.Register (registers.Result m.block m.place) → substituted_operand sigma a ≡ a
            unchanged (operands.Register r) ne = instead_other (registers.Result m.block m.place) w.result r (λ e. ne (ap (λ x. operands.Register x) e))
            unchanged (operands.Number n) ne = refl
            unchanged operands.Undef ne = refl
            unchanged operands.Poison ne = refl

        pub applied : function_at (put_for f w m.place) rows' ≡ rewritten_function (target.rewrite_of rule pm name) F
        applied =
            put_for_is f rows good m.block m.place (end_of f m.block) P w.put (target.rewrite_of rule pm name).put w.result (target.rewrite_of rule pm name).result
            root.block root.is_block root.inst root.is_inst root.stands refl (put_same_insts rule m (end_of f m.block) P to g is_rule agrees name) result_same

    -- and so the rule is applied
    pub rule_applied : (root : IsRootIn) → IsRewritten F pm rule (function_at (put_for f (target.rewrite_of rule (numbered f m) root.inst.name) m.place) (rows_put_for f rows (target.rewrite_of rule (numbered f m) root.inst.name) m.place))
    rule_applied root = record { root = substituted_inst to root.inst; is_root = root.placed_inst; is = applied root.inst.name root (not_own root.inst.name root) }
