-- What the instructions read that a rule inserts: what its source is bound to, and the results of those before them.
use Rattle.draft_steps.proofs.Common.{◌≡◌, ℕ, zero, suc, ◌+◌, ◌-◌, ◌<◌, ◌≤◌, inl, inr, false, cond, not, List, [], ◌∷◌, ◌++◌, length, take, Option, None, Some, refl, sym, ap, subst, ◌∙◌, arith, Contains, slice_get, slice_index_or, option_map_or, cases_lt, get_or_append_left, get_or_push, sum_by-cons, same_Some, residue, Number, Value, Name, Inst, Operand, cases_in, first_in, later_in, not_in_empty, IsRule, TargetMayRead, in_turn, constant_values, value_at, Argument, Rule, Statement, get_cases, Binding, argument_put, class_width, count_put, insts_of_op, insts_put, insts_with, is_copy, literal_of, operand_put, result_of_op, result_put, results_put}
use Rattle.std.proofs.lemmas.List.{length-append}
use Rattle.ops.specs.declared.value.Value.TheVariants as values
use Rattle.ir_core.specs.declared.operand.Operand.TheVariants as operands
use Rattle.ir_core.specs.declared.operand.Register.TheVariants as registers
use Rattle.ir_meaning.proofs.Pieces.{contains_at}
use Rattle.needed.specs.Operands.{operands_of as read_by}
use Rattle.rule_core.specs.Positions.{operands_of}
use Rattle.rule_core.specs.declared.rule.Argument.TheVariants as arguments
use Rattle.rule_core.specs.declared.rule.Op.{Op as RuleOp}
use Rattle.rule_core.specs.declared.rule.Op.TheVariants as rule_ops
use Rattle.rule_core.specs.declared.rule.Operand.{Operand as RuleOperand}
use Rattle.rule_core.specs.declared.rule.Register.TheVariants as names

-- ---- how many are inserted for the first statements

put_step : (statements : List Statement) (t : ℕ) (s : Statement) → slice_get statements t ≡ Some s → count_put (take (suc t) statements) ≡ count_put (take t statements) + cond (not (is_copy s.op)) 1 0
put_step [] t s at = absurd cc
put_step (x ∷ statements) zero s at =
    let same : x ≡ s = same_Some x s at in
    sum_by-cons (λ (y : Statement). cond (not (is_copy y.op)) 1 0) x [] ∙ (by (cond (not (is_copy x.op)) 1 0) ∙ ap (λ (y : Statement). 0 + cond (not (is_copy y.op)) 1 0) same)
  where
    by : (n : ℕ) → n + 0 ≡ 0 + n
    by n = omega arith
put_step (x ∷ statements) (suc t) s at =
    sum_by-cons (λ (y : Statement). cond (not (is_copy y.op)) 1 0) x (take (suc t) statements)
    ∙ (ap (λ n. cond (not (is_copy x.op)) 1 0 + n) (put_step statements t s at)
    ∙ (by (cond (not (is_copy x.op)) 1 0) (count_put (take t statements)) (cond (not (is_copy s.op)) 1 0)
    ∙ ap (λ n. n + cond (not (is_copy s.op)) 1 0) (sym (sum_by-cons (λ (y : Statement). cond (not (is_copy y.op)) 1 0) x (take t statements)))))
  where
    by : (a b c : ℕ) → a + (b + c) ≡ a + b + c
    by a b c = omega arith

take_none : (t : ℕ) → take {A = Statement} t [] ≡ []
take_none zero = refl
take_none (suc t) = refl

put_up : (statements : List Statement) (t u : ℕ) → t ≤ u → count_put (take t statements) ≤ count_put (take u statements)
put_up [] t u le = let none : count_put (take t []) ≡ 0 = ap count_put (take_none t) in omega (arith, none)
put_up (x ∷ statements) zero u le = omega arith
put_up (x ∷ statements) (suc t) zero le = absurd (omega arith)
put_up (x ∷ statements) (suc t) (suc u) le =
    let rest : count_put (take t statements) ≤ count_put (take u statements) = put_up statements t u (omega arith) in
    by (count_put (x ∷ take t statements)) (count_put (x ∷ take u statements)) (cond (not (is_copy x.op)) 1 0) (count_put (take t statements)) (count_put (take u statements))
    (sum_by-cons (λ (y : Statement). cond (not (is_copy y.op)) 1 0) x (take t statements)) (sum_by-cons (λ (y : Statement). cond (not (is_copy y.op)) 1 0) x (take u statements)) rest
  where
    by : (p q a m n : ℕ) → p ≡ a + m → q ≡ a + n → m ≤ n → p ≤ q
    by p q a m n e h le = omega arith

-- ---- a property of operands

module _ (rule : Rule) (m : Binding) (first : ℕ) (Q : ℕ → Operand → Type 0) where
  abbrev num : Binding
  num = record m { place = first }

  -- All that an inserted instruction may read has the property: numbers, what the source is bound to, and, for those
  -- behind it, the result of an inserted instruction. What has it for one instruction has it for those behind it.
  pub record Closed : Type 0 where
    pub more : (j k : ℕ) (a : Operand) → j ≤ k → Q j a → Q k a
    pub number : (k : ℕ) (n : Number) → Q k (operands.Number n)
    pub undefined : (k : ℕ) → Q k operands.Undef
    pub poison : (k : ℕ) → Q k operands.Poison
    pub input : (k i : ℕ) → i < length rule.inputs → Q k (slice_index_or m.inputs i operands.Poison)
    pub source : (k j : ℕ) → suc j < length rule.source → Q k (option_map_or operands.Register (slice_get m.statements j) operands.Poison)
    pub result : (k i : ℕ) → i < k → Q k (operands.Register (registers.Result m.block (first + i)))

  -- how many are inserted for the statements before the t-th
  abbrev before : ℕ → ℕ
  before t = count_put (take t rule.target)

  module _ (good : IsRule rule) (closed : Closed) where
    constant_holds : (k : ℕ) (o : Option Number) → Q k (option_map_or operands.Number o operands.Poison)
    constant_holds k None = closed.poison k
    constant_holds k (Some n) = closed.number k n

    literal_holds : (k : ℕ) (v : Value) → Q k (literal_of v)
    literal_holds k values.Poison = closed.poison k
    literal_holds k (values.Bits n) = closed.number k n

    -- the first results have it, each for the instructions behind it
    abbrev Hold : ℕ → List Operand → Type 0
    Hold t results = (j : ℕ) → j < t → Q (before (suc j)) (slice_index_or results j operands.Poison)

    argument_holds : (results : List Operand) (N t : ℕ) (a : Argument) → TargetMayRead rule t a → Hold t results → Q (before t) (argument_put rule num results N a)
    argument_holds results N t (arguments.Register (names.Input i)) may hold = closed.input (before t) i may
    argument_holds results N t (arguments.Register (names.Source j)) may hold = closed.source (before t) j may
    argument_holds results N t (arguments.Register (names.Target j)) may hold =
        let le : suc j ≤ t = omega (arith, may) in
        closed.more (before (suc j)) (before t) (slice_index_or results j operands.Poison) (put_up rule.target (suc j) t le) (hold j may)
    argument_holds results N t (arguments.Literal z) may hold = closed.number (before t) (record { width = N; number = residue N z })
    argument_holds results N t (arguments.Truth b) may hold = closed.number (before t) (record { width = N; number = cond b 1 0 })
    argument_holds results N t (arguments.Constant j) may hold = constant_holds (before t) (slice_get m.constants j)
    argument_holds results N t (arguments.Undef j) may hold = closed.undefined (before t)
    argument_holds results N t (arguments.Term n) may hold = literal_holds (before t) (value_at (constant_values m.typing m.constants rule) n)

    abbrev MayReadAll : ℕ → RuleOp → Type 0
    MayReadAll t op = (o : RuleOperand) → Contains (operands_of op) o → TargetMayRead rule t o.value

    operand_holds : (results : List Operand) (t : ℕ) (o : RuleOperand) → TargetMayRead rule t o.value → Hold t results → Q (before t) (operand_put rule num results o)
    operand_holds results t o may hold = argument_holds results (class_width rule num o.class) t o.value may hold

    -- ---- results

    put_holds : (t : ℕ) (s : Statement) → slice_get rule.target t ≡ Some s → is_copy s.op ≡ false → Q (before (suc t)) (operands.Register (registers.Result m.block (first + before t)))
    put_holds t s at kept = closed.result (before (suc t)) (before t) (by (before (suc t)) (before t) (put_step rule.target t s at ∙ ap (λ b. before t + cond (not b) 1 0) kept))
      where
        by : (p q : ℕ) → p ≡ q + 1 → q < p
        by p q e = omega arith

    result_holds : (done : List Operand) (s : Statement) (op : RuleOp) → s.op ≡ op → slice_get rule.target (length done) ≡ Some s → MayReadAll (length done) op → Hold (length done) done
        → Q (before (suc (length done))) (result_of_op rule num done op)
    result_holds done s (rule_ops.Copy a) is at may hold =
        closed.more (before (length done)) (before (suc (length done))) (operand_put rule num done a) (put_up rule.target (length done) (suc (length done)) (omega arith)) (operand_holds done (length done) a (may a (first_in a [])) hold)
    result_holds done s (rule_ops.Binary opcode flags a b) is at may hold = put_holds (length done) s at (ap is_copy is)
    result_holds done s (rule_ops.Compare pred samesign a b) is at may hold = put_holds (length done) s at (ap is_copy is)
    result_holds done s (rule_ops.Unary op truth a) is at may hold = put_holds (length done) s at (ap is_copy is)
    result_holds done s (rule_ops.Select c a b) is at may hold = put_holds (length done) s at (ap is_copy is)
    result_holds done s (rule_ops.Convert cast flags a into) is at may hold = put_holds (length done) s at (ap is_copy is)
    result_holds done s (rule_ops.Freeze a j) is at may hold = put_holds (length done) s at (ap is_copy is)

    abbrev From : ℕ → List Statement → Type 0
    From t statements = (i : ℕ) (s : Statement) → slice_get statements i ≡ Some s → slice_get rule.target (t + i) ≡ Some s

    from_here : (t : ℕ) (s : Statement) (statements : List Statement) → From t (s ∷ statements) → slice_get rule.target t ≡ Some s
    from_here t s statements from = let here : t + 0 ≡ t = omega arith in subst (λ (n : ℕ). slice_get rule.target n ≡ Some s) here (from 0 s refl)

    from_next : (t : ℕ) (s : Statement) (statements : List Statement) → From t (s ∷ statements) → From (suc t) statements
    from_next t s statements from = λ i x at. let next : t + suc i ≡ suc t + i = omega arith in subst (λ (n : ℕ). slice_get rule.target n ≡ Some x) next (from (suc i) x at)

    from_target : From 0 rule.target
    from_target = λ i s at. let here : i ≡ 0 + i = omega arith in subst (λ (n : ℕ). slice_get rule.target n ≡ Some s) here at

    may_read : (t : ℕ) (s : Statement) → slice_get rule.target t ≡ Some s → MayReadAll t s.op
    may_read t s at = λ o has. good.target_reads t s o at has

    hold_more : (done : List Operand) (x : Operand) → Hold (length done) done → Q (before (suc (length done))) x → Hold (length (done ++ x ∷ [])) (done ++ x ∷ [])
    hold_more done x hold one = λ j lt. elim (cases_lt j (length done)) [
      | inl early ↦ subst (Q (before (suc j))) (sym (get_or_append_left done (x ∷ []) operands.Poison j early)) (hold j early)
      | inr late ↦
          let longer : length (done ++ x ∷ []) ≡ length done + 1 = length-append done (x ∷ []) in
          let last : j ≡ length done = omega (arith, lt, longer, late) in
          let here : slice_index_or (done ++ x ∷ []) j operands.Poison ≡ x = get_or_push done x operands.Poison j (sym last) in
          subst (λ (k : ℕ). Q (before (suc k)) (slice_index_or (done ++ x ∷ []) j operands.Poison)) (sym last) (subst (Q (before (suc (length done)))) (sym here) one)
    ]

    turns_hold : (done : List Operand) (statements : List Statement) → From (length done) statements → Hold (length done) done
        → Hold (length done + length statements) (in_turn (result_put rule num) done statements)
    turns_hold done [] from hold = λ j lt. hold j (omega (arith, lt))
    turns_hold done (s ∷ statements) from hold = λ j lt.
        let x : Operand = result_put rule num done s in
        let here : slice_get rule.target (length done) ≡ Some s = from_here (length done) s statements from in
        let one : Q (before (suc (length done))) x = result_holds done s s.op refl here (may_read (length done) s here) hold in
        let longer : length (done ++ x ∷ []) ≡ length done + 1 = length-append done (x ∷ []) in
        let next : suc (length done) ≡ length (done ++ x ∷ []) = omega (arith, longer) in
        let rest : Hold (length (done ++ x ∷ []) + length statements) (in_turn (result_put rule num) (done ++ x ∷ []) statements) =
        turns_hold (done ++ x ∷ []) statements (subst (λ (t : ℕ). From t statements) next (from_next (length done) s statements from)) (hold_more done x hold one) in
        rest j (omega (arith, lt, longer))

    pub results_hold : Hold (length rule.target) (results_put rule num)
    results_hold = λ j lt. turns_hold [] rule.target from_target (λ i none. absurd (omega arith)) j (omega (arith, lt))

    -- the operand that replaces the root's register
    pub last_holds : Q (count_put rule.target) (slice_index_or (results_put rule num) (length rule.target - 1) operands.Poison)
    last_holds =
        let some : 0 < length rule.target = good.target_root in
        let last : suc (length rule.target - 1) ≡ length rule.target = omega (arith, some) in
        let there = results_hold (length rule.target - 1) (omega (arith, some)) in
        subst (λ (k : ℕ). Q k (slice_index_or (results_put rule num) (length rule.target - 1) operands.Poison)) (ap before last ∙ ap count_put (all rule.target)) there
      where
        all : (xs : List Statement) → take (length xs) xs ≡ xs
        all [] = refl
        all (x ∷ xs) = ap (λ (l : List Statement). x ∷ l) (all xs)

    -- ---- inserted instructions

    read_holds : (t : ℕ) (o : RuleOperand) → TargetMayRead rule t o.value → t < length rule.target → Q (before t) (operand_put rule num (results_put rule num) o)
    read_holds t o may lt = operand_holds (results_put rule num) t o may (λ j early. results_hold j (omega (arith, early, lt)))

    one_reads : (k : ℕ) (a x : Operand) → Contains (x ∷ []) a → Q k x → Q k a
    one_reads k a x has holds = elim (cases_in x [] a has) [ inl same ↦ subst (Q k) same holds | inr later ↦ absurd (not_in_empty a later) ]

    two_read : (k : ℕ) (a x y : Operand) → Contains (x ∷ y ∷ []) a → Q k x → Q k y → Q k a
    two_read k a x y has first_holds then = elim (cases_in x (y ∷ []) a has) [ inl same ↦ subst (Q k) same first_holds | inr later ↦ one_reads k a y later then ]

    same_inst : (i x : Inst) → Contains (x ∷ []) i → x ≡ i
    same_inst i x has = elim (cases_in x [] i has) [ inl same ↦ same | inr later ↦ absurd (not_in_empty i later) ]

    op_reads : (t : ℕ) (name : Name) (N : ℕ) (op : RuleOp) → MayReadAll t op → t < length rule.target → (i : Inst) → Contains (insts_of_op rule num name N op) i → (a : Operand) → Contains (read_by i.op) a → Q (before t) a
    op_reads t name N (rule_ops.Binary opcode flags x y) may lt i has a reads =
        two_read (before t) a (operand_put rule num (results_put rule num) x) (operand_put rule num (results_put rule num) y) (subst (λ (k : Inst). Contains (read_by k.op) a) (sym (same_inst i _ has)) reads)
        (read_holds t x (may x (first_in x (y ∷ []))) lt) (read_holds t y (may y (later_in x (y ∷ []) y (first_in y []))) lt)
    op_reads t name N (rule_ops.Compare pred samesign x y) may lt i has a reads =
        two_read (before t) a (operand_put rule num (results_put rule num) x) (operand_put rule num (results_put rule num) y) (subst (λ (k : Inst). Contains (read_by k.op) a) (sym (same_inst i _ has)) reads)
        (read_holds t x (may x (first_in x (y ∷ []))) lt) (read_holds t y (may y (later_in x (y ∷ []) y (first_in y []))) lt)
    op_reads t name N (rule_ops.Unary op truth x) may lt i has a reads =
        one_reads (before t) a (operand_put rule num (results_put rule num) x) (subst (λ (k : Inst). Contains (read_by k.op) a) (sym (same_inst i _ has)) reads) (read_holds t x (may x (first_in x [])) lt)
    op_reads t name N (rule_ops.Select c x y) may lt i has a reads =
        let all : Contains (operand_put rule num (results_put rule num) c ∷ operand_put rule num (results_put rule num) x ∷ operand_put rule num (results_put rule num) y ∷ []) a = subst (λ (k : Inst). Contains (read_by k.op) a) (sym (same_inst i _ has)) reads in
        elim (cases_in (operand_put rule num (results_put rule num) c) (operand_put rule num (results_put rule num) x ∷ operand_put rule num (results_put rule num) y ∷ []) a all) [
          | inl same ↦ subst (Q (before t)) same (read_holds t c (may c (first_in c (x ∷ y ∷ []))) lt)
          | inr later ↦ two_read (before t) a (operand_put rule num (results_put rule num) x) (operand_put rule num (results_put rule num) y) later
              (read_holds t x (may x (later_in c (x ∷ y ∷ []) x (first_in x (y ∷ [])))) lt) (read_holds t y (may y (later_in c (x ∷ y ∷ []) y (later_in x (y ∷ []) y (first_in y [])))) lt)
        ]
    op_reads t name N (rule_ops.Convert cast flags x into) may lt i has a reads =
        one_reads (before t) a (operand_put rule num (results_put rule num) x) (subst (λ (k : Inst). Contains (read_by k.op) a) (sym (same_inst i _ has)) reads) (read_holds t x (may x (first_in x [])) lt)
    op_reads t name N (rule_ops.Freeze x j) may lt i has a reads =
        one_reads (before t) a (operand_put rule num (results_put rule num) x) (subst (λ (k : Inst). Contains (read_by k.op) a) (sym (same_inst i _ has)) reads) (read_holds t x (may x (first_in x [])) lt)
    op_reads t name N (rule_ops.Copy x) may lt i has a reads = absurd (not_in_empty i has)

    one_put : (name : Name) (N : ℕ) (op : RuleOp) → length (insts_of_op rule num name N op) ≡ cond (not (is_copy op)) 1 0
    one_put name N (rule_ops.Binary opcode flags x y) = refl
    one_put name N (rule_ops.Compare pred samesign x y) = refl
    one_put name N (rule_ops.Unary op truth x) = refl
    one_put name N (rule_ops.Select c x y) = refl
    one_put name N (rule_ops.Convert cast flags x into) = refl
    one_put name N (rule_ops.Freeze x j) = refl
    one_put name N (rule_ops.Copy x) = refl

    with_reads : (t : ℕ) (name : Name) (s : Statement) → slice_get rule.target t ≡ Some s → t < length rule.target → (j : ℕ) (i : Inst) → slice_get (insts_with rule num name s) j ≡ Some i → (a : Operand) → Contains (read_by i.op) a → Q (before t + j) a
    with_reads t name s at lt j i is a reads =
        closed.more (before t) (before t + j) a (omega arith) (op_reads t name (class_width rule num s.class) s.op (may_read t s at) lt i (contains_at (insts_with rule num name s) j i is) a reads)

    insts_read : (t : ℕ) (name : Name) (statements : List Statement) → From t statements → t + length statements ≡ length rule.target
        → (j : ℕ) (i : Inst) → slice_get (insts_put rule num name statements) j ≡ Some i → (a : Operand) → Contains (read_by i.op) a → Q (before t + j) a
    insts_read t name [] from size j i is a reads = absurd cc
    insts_read t name (s ∷ []) from size j i is a reads = with_reads t name s (from_here t s [] from) (omega (arith, size)) j i is a reads
    insts_read t name (s ∷ u ∷ statements) from size j i is a reads =
        let at : slice_get rule.target t ≡ Some s = from_here t s (u ∷ statements) from in
        elim (get_cases (insts_with rule num None s) (insts_put rule num name (u ∷ statements)) j i is) [
          | inl here ↦ with_reads t None s at (omega (arith, size)) j i here a reads
          | inr (k, split, later) ↦
              let next : before (suc t) ≡ before t + cond (not (is_copy s.op)) 1 0 = put_step rule.target t s at in
              let rest : Q (before (suc t) + k) a = insts_read (suc t) name (u ∷ statements) (from_next t s (u ∷ statements) from) (omega (arith, size)) k i later a reads in
              subst (λ (n : ℕ). Q n a) (by (before (suc t)) (before t) (cond (not (is_copy s.op)) 1 0) (length (insts_with rule num None s)) j k next (one_put None (class_width rule num s.class) s.op) split) rest
        ]
      where
        by : (next t c l j k : ℕ) → next ≡ t + c → l ≡ c → j ≡ l + k → next + k ≡ t + j
        by next t c l j k p q r = omega arith

    pub put_reads : (name : Name) (j : ℕ) (i : Inst) → slice_get (insts_put rule num name rule.target) j ≡ Some i → (a : Operand) → Contains (read_by i.op) a → Q j a
    put_reads name j i is a reads = subst (λ (n : ℕ). Q n a) (by (before 0) j refl) (insts_read 0 name rule.target from_target (omega arith) j i is a reads)
      where
        by : (z j : ℕ) → z ≡ 0 → z + j ≡ j
        by z j e = omega arith
