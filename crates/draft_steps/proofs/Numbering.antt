-- A rule inserts the same instructions in the arena as in the function, but for the names of what they read.
use Rattle.draft_steps.proofs.Common.{◌≡◌, ℕ, zero, suc, ◌+◌, ◌-◌, ◌<◌, false, cond, not, List, [], ◌∷◌, ◌++◌, length, map, take, Option, None, Some, refl, sym, ap, subst, ◌∙◌, arith, Contains, slice_get, slice_index_or, option_map_or, map-append, sum_by-cons, same_Some, residue, Number, Value, Name, Inst, Op, Operand, first_in, later_in, IsRule, TargetMayRead, in_turn, constant_values, value_at, Argument, Rule, Statement, Substitution, Binding, moved_binding, argument_put, class_width, count_put, insts_of_op, insts_put, insts_with, is_copy, literal_of, operand_put, result_of_op, result_put, results_put}
use Rattle.std.proofs.lemmas.List.{length-append}
use Rattle.ops.specs.declared.value.Value.TheVariants as values
use Rattle.ir_core.specs.declared.instruction.Op.TheVariants as ops
use Rattle.ir_core.specs.declared.operand.Operand.TheVariants as operands
use Rattle.ir_core.specs.declared.operand.Register.TheVariants as registers
use Rattle.rule_core.specs.Positions.{operands_of}
use Rattle.rule_core.specs.declared.rule.Argument.TheVariants as arguments
use Rattle.rule_core.specs.declared.rule.Op.{Op as RuleOp}
use Rattle.rule_core.specs.declared.rule.Op.TheVariants as rule_ops
use Rattle.rule_core.specs.declared.rule.Operand.{Operand as RuleOperand}
use Rattle.rule_core.specs.declared.rule.Register.TheVariants as names
use Rattle.draft_steps.proofs.Mapping.{changed_inst}

-- ---- how many are inserted

put_here : (s : Statement) (statements : List Statement) → is_copy s.op ≡ false → count_put (s ∷ statements) ≡ suc (count_put statements)
put_here s statements kept =
    let one : count_put (s ∷ statements) ≡ cond (not (is_copy s.op)) 1 0 + count_put statements = sum_by-cons (λ (x : Statement). cond (not (is_copy x.op)) 1 0) s statements in
    by (count_put (s ∷ statements)) (count_put statements) (one ∙ ap (λ b. cond (not b) 1 0 + count_put statements) kept)
  where
    by : (m n : ℕ) → m ≡ 1 + n → m ≡ suc n
    by m n e = omega arith

put_more : (s : Statement) (xs ys : List Statement) → count_put xs < count_put ys → count_put (s ∷ xs) < count_put (s ∷ ys)
put_more s xs ys lt =
    by (count_put (s ∷ xs)) (count_put (s ∷ ys)) (cond (not (is_copy s.op)) 1 0) (count_put xs) (count_put ys)
    (sum_by-cons (λ (x : Statement). cond (not (is_copy x.op)) 1 0) s xs) (sum_by-cons (λ (x : Statement). cond (not (is_copy x.op)) 1 0) s ys) lt
  where
    by : (a b c m n : ℕ) → a ≡ c + m → b ≡ c + n → m < n → a < b
    by a b c m n p q lt = omega arith

-- a statement that is no copy has an instruction of its own among those that are inserted
put_below : (statements : List Statement) (t : ℕ) (s : Statement) → slice_get statements t ≡ Some s → is_copy s.op ≡ false → count_put (take t statements) < count_put statements
put_below [] t s at kept = absurd cc
put_below (x ∷ statements) zero s at kept =
    let same : x ≡ s = same_Some x s at in
    let more : count_put (x ∷ statements) ≡ suc (count_put statements) = put_here x statements (ap (λ (y : Statement). is_copy y.op) same ∙ kept) in
    by (count_put (x ∷ statements)) (count_put statements) more
  where
    by : (m n : ℕ) → m ≡ suc n → 0 < m
    by m n e = omega arith
put_below (x ∷ statements) (suc t) s at kept = put_more x (take t statements) statements (put_below statements t s at kept)

-- ---- operands

module _ (rule : Rule) (m : Binding) (first k : ℕ) (to : Substitution) (g : Operand → Operand) where
  -- the binding to numbers, with the number of the first inserted instruction; and that to positions, with the root's
  abbrev num : Binding
  num = record m { place = first }

  abbrev pl : Binding
  pl = moved_binding to k m

  -- g renames what the binding to numbers names to what the one to positions names.
  pub record Agrees : Type 0 where
    pub number : (n : Number) → g (operands.Number n) ≡ operands.Number n
    pub undefined : g operands.Undef ≡ operands.Undef
    pub poison : g operands.Poison ≡ operands.Poison
    pub input : (i : ℕ) → i < length rule.inputs → g (slice_index_or m.inputs i operands.Poison) ≡ slice_index_or pl.inputs i operands.Poison
    pub source : (j : ℕ) → suc j < length rule.source → g (option_map_or operands.Register (slice_get m.statements j) operands.Poison) ≡ option_map_or operands.Register (slice_get pl.statements j) operands.Poison
    pub result : (j : ℕ) → j < count_put rule.target → g (operands.Register (registers.Result m.block (first + j))) ≡ operands.Register (registers.Result m.block (k + j))

  module _ (good : IsRule rule) (agrees : Agrees) where
    mapped_or : (xs : List Operand) (j : ℕ) → g (slice_index_or xs j operands.Poison) ≡ slice_index_or (map g xs) j operands.Poison
    mapped_or [] j = agrees.poison
    mapped_or (x ∷ xs) zero = refl
    mapped_or (x ∷ xs) (suc j) = mapped_or xs j

    constant_same : (o : Option Number) → g (option_map_or operands.Number o operands.Poison) ≡ option_map_or operands.Number o operands.Poison
    constant_same None = agrees.poison
    constant_same (Some n) = agrees.number n

    literal_same : (v : Value) → g (literal_of v) ≡ literal_of v
    literal_same values.Poison = agrees.poison
    literal_same (values.Bits n) = agrees.number n

    argument_same : (results : List Operand) (N t : ℕ) (a : Argument) → TargetMayRead rule t a → g (argument_put rule num results N a) ≡ argument_put rule pl (map g results) N a
    argument_same results N t (arguments.Register (names.Input i)) may = agrees.input i may
    argument_same results N t (arguments.Register (names.Source j)) may = agrees.source j may
    argument_same results N t (arguments.Register (names.Target j)) may = mapped_or results j
    argument_same results N t (arguments.Literal z) may = agrees.number (record { width = N; number = residue N z })
    argument_same results N t (arguments.Truth b) may = agrees.number (record { width = N; number = cond b 1 0 })
    argument_same results N t (arguments.Constant j) may = constant_same (slice_get m.constants j)
    argument_same results N t (arguments.Undef j) may = agrees.undefined
    argument_same results N t (arguments.Term n) may = literal_same (value_at (constant_values m.typing m.constants rule) n)

    -- what the statement may read
    abbrev MayReadAll : ℕ → RuleOp → Type 0
    MayReadAll t op = (o : RuleOperand) → Contains (operands_of op) o → TargetMayRead rule t o.value

    operand_same : (results : List Operand) (t : ℕ) (o : RuleOperand) → TargetMayRead rule t o.value → g (operand_put rule num results o) ≡ operand_put rule pl (map g results) o
    operand_same results t o may = argument_same results (class_width rule num o.class) t o.value may

    -- ---- operands for the target's registers

    put_same : (done : List Operand) → count_put (take (length done) rule.target) < count_put rule.target
        → g (operands.Register (registers.Result m.block (first + count_put (take (length done) rule.target)))) ≡ operands.Register (registers.Result m.block (k + count_put (take (length (map g done)) rule.target)))
    put_same done lt = agrees.result (count_put (take (length done) rule.target)) lt ∙ ap (λ n. operands.Register (registers.Result m.block (k + count_put (take n rule.target)))) (sym (length_map done))
      where
        length_map : (xs : List Operand) → length (map g xs) ≡ length xs
        length_map [] = refl
        length_map (x ∷ xs) = ap suc (length_map xs)

    result_same : (done : List Operand) (op : RuleOp) → MayReadAll (length done) op → (is_copy op ≡ false → count_put (take (length done) rule.target) < count_put rule.target)
        → g (result_of_op rule num done op) ≡ result_of_op rule pl (map g done) op
    result_same done (rule_ops.Copy a) may lt = operand_same done (length done) a (may a (first_in a []))
    result_same done (rule_ops.Binary opcode flags a b) may lt = put_same done (lt refl)
    result_same done (rule_ops.Compare pred samesign a b) may lt = put_same done (lt refl)
    result_same done (rule_ops.Unary op truth a) may lt = put_same done (lt refl)
    result_same done (rule_ops.Select c a b) may lt = put_same done (lt refl)
    result_same done (rule_ops.Convert cast flags a into) may lt = put_same done (lt refl)
    result_same done (rule_ops.Freeze a j) may lt = put_same done (lt refl)

    -- these statements are those of the target from a place on
    abbrev From : ℕ → List Statement → Type 0
    From t statements = (i : ℕ) (s : Statement) → slice_get statements i ≡ Some s → slice_get rule.target (t + i) ≡ Some s

    from_here : (t : ℕ) (s : Statement) (statements : List Statement) → From t (s ∷ statements) → slice_get rule.target t ≡ Some s
    from_here t s statements from = let here : t + 0 ≡ t = omega arith in subst (λ (n : ℕ). slice_get rule.target n ≡ Some s) here (from 0 s refl)

    from_next : (t : ℕ) (s : Statement) (statements : List Statement) → From t (s ∷ statements) → From (suc t) statements
    from_next t s statements from = λ i x at. let next : t + suc i ≡ suc t + i = omega arith in subst (λ (n : ℕ). slice_get rule.target n ≡ Some x) next (from (suc i) x at)

    may_read : (t : ℕ) (s : Statement) → slice_get rule.target t ≡ Some s → MayReadAll t s.op
    may_read t s at = λ o has. good.target_reads t s o at has

    turns_same : (done : List Operand) (statements : List Statement) → From (length done) statements
        → map g (in_turn (result_put rule num) done statements) ≡ in_turn (result_put rule pl) (map g done) statements
    turns_same done [] from = refl
    turns_same done (s ∷ statements) from =
        let x : Operand = result_put rule num done s in
        let here : slice_get rule.target (length done) ≡ Some s = from_here (length done) s statements from in
        let one : g x ≡ result_put rule pl (map g done) s = result_same done s.op (may_read (length done) s here) (λ kept. put_below rule.target (length done) s here kept) in
        let longer : length (done ++ x ∷ []) ≡ suc (length done) = length-append done (x ∷ []) ∙ by (length done) in
        let rest : map g (in_turn (result_put rule num) (done ++ x ∷ []) statements) ≡ in_turn (result_put rule pl) (map g (done ++ x ∷ [])) statements =
        turns_same (done ++ x ∷ []) statements (subst (λ (t : ℕ). From t statements) (sym longer) (from_next (length done) s statements from)) in
        rest ∙ (ap (λ (l : List Operand). in_turn (result_put rule pl) l statements) (map-append g done (x ∷ [])) ∙ ap (λ (y : Operand). in_turn (result_put rule pl) (map g done ++ y ∷ []) statements) one)
      where
        by : (n : ℕ) → n + 1 ≡ suc n
        by n = omega arith

    pub results_same : map g (results_put rule num) ≡ results_put rule pl
    results_same = turns_same [] rule.target (λ i s at. let here : i ≡ 0 + i = omega arith in subst (λ (n : ℕ). slice_get rule.target n ≡ Some s) here at)

    pub last_same : g (slice_index_or (results_put rule num) (length rule.target - 1) operands.Poison) ≡ slice_index_or (results_put rule pl) (length rule.target - 1) operands.Poison
    last_same = mapped_or (results_put rule num) (length rule.target - 1) ∙ ap (λ (l : List Operand). slice_index_or l (length rule.target - 1) operands.Poison) results_same

    -- ---- instructions

    read_same : (t : ℕ) (o : RuleOperand) → TargetMayRead rule t o.value → g (operand_put rule num (results_put rule num) o) ≡ operand_put rule pl (results_put rule pl) o
    read_same t o may = operand_same (results_put rule num) t o may ∙ ap (λ (l : List Operand). operand_put rule pl l o) results_same

    abbrev inst_of : Name → ℕ → Op → List Inst
    inst_of name N op = record { name = name; width = N; op = op } ∷ []

    op_same : (t : ℕ) (name : Name) (N : ℕ) (op : RuleOp) → MayReadAll t op → map (changed_inst g) (insts_of_op rule num name N op) ≡ insts_of_op rule pl name N op
    op_same t name N (rule_ops.Binary opcode flags a b) may =
        ap (λ (x : Operand). inst_of name N (ops.Binary opcode flags x (g (operand_put rule num (results_put rule num) b)))) (read_same t a (may a (first_in a (b ∷ []))))
        ∙ ap (λ (y : Operand). inst_of name N (ops.Binary opcode flags (operand_put rule pl (results_put rule pl) a) y)) (read_same t b (may b (later_in a (b ∷ []) b (first_in b []))))
    op_same t name N (rule_ops.Compare pred samesign a b) may =
        ap (λ (x : Operand). inst_of name N (ops.Compare pred samesign (class_width rule num a.class) x (g (operand_put rule num (results_put rule num) b)))) (read_same t a (may a (first_in a (b ∷ []))))
        ∙ ap (λ (y : Operand). inst_of name N (ops.Compare pred samesign (class_width rule num a.class) (operand_put rule pl (results_put rule pl) a) y)) (read_same t b (may b (later_in a (b ∷ []) b (first_in b []))))
    op_same t name N (rule_ops.Unary op truth a) may = ap (λ (x : Operand). inst_of name N (ops.Unary op truth x)) (read_same t a (may a (first_in a [])))
    op_same t name N (rule_ops.Select c a b) may =
        ap (λ (x : Operand). inst_of name N (ops.Select x (g (operand_put rule num (results_put rule num) a)) (g (operand_put rule num (results_put rule num) b)))) (read_same t c (may c (first_in c (a ∷ b ∷ []))))
        ∙ (ap (λ (x : Operand). inst_of name N (ops.Select (operand_put rule pl (results_put rule pl) c) x (g (operand_put rule num (results_put rule num) b)))) (read_same t a (may a (later_in c (a ∷ b ∷ []) a (first_in a (b ∷ [])))))
        ∙ ap (λ (x : Operand). inst_of name N (ops.Select (operand_put rule pl (results_put rule pl) c) (operand_put rule pl (results_put rule pl) a) x)) (read_same t b (may b (later_in c (a ∷ b ∷ []) b (later_in a (b ∷ []) b (first_in b []))))))
    op_same t name N (rule_ops.Convert cast flags a into) may = ap (λ (x : Operand). inst_of name N (ops.Convert cast flags (class_width rule num a.class) x)) (read_same t a (may a (first_in a [])))
    op_same t name N (rule_ops.Freeze a j) may = ap (λ (x : Operand). inst_of name N (ops.Freeze x)) (read_same t a (may a (first_in a [])))
    op_same t name N (rule_ops.Copy a) may = refl

    pub insts_same : (t : ℕ) (name : Name) (statements : List Statement) → From t statements → map (changed_inst g) (insts_put rule num name statements) ≡ insts_put rule pl name statements
    insts_same t name [] from = refl
    insts_same t name (s ∷ []) from = op_same t name (class_width rule num s.class) s.op (may_read t s (from_here t s [] from))
    insts_same t name (s ∷ u ∷ statements) from =
        map-append (changed_inst g) (insts_with rule num None s) (insts_put rule num name (u ∷ statements))
        ∙ (ap (λ (l : List Inst). l ++ map (changed_inst g) (insts_put rule num name (u ∷ statements))) (op_same t None (class_width rule num s.class) s.op (may_read t s (from_here t s (u ∷ statements) from)))
        ∙ ap (λ (l : List Inst). insts_with rule pl None s ++ l) (insts_same (suc t) name (u ∷ statements) (from_next t s (u ∷ statements) from)))

    pub put_same_insts : (name : Name) → map (changed_inst g) (insts_put rule num name rule.target) ≡ insts_put rule pl name rule.target
    put_same_insts name = insts_same 0 name rule.target (λ i s at. let here : i ≡ 0 + i = omega arith in subst (λ (n : ℕ). slice_get rule.target n ≡ Some s) here at)
