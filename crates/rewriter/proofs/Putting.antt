-- The operands for the registers of target statements, and what the inserted instructions read.
use Rattle.rewriter.proofs.Common.{◌≡◌, ℕ, zero, suc, ◌+◌, ◌<◌, ◌≤◌, inl, inr, true, false, not, List, [], ◌∷◌, ◌++◌, length, take, length-take, Some, None, refl, sym, ap, subst, ◌∙◌, arith, get_or, zero-add, add-one, append-nil, slice_get, slice_index_or, Contains, option_map_or, cases_lt, count_by_more_yes, count_by_more_no, same_Some, slice_get-get_or, slice_get_within, get_or_from_slice_get, Value, Name, Read, read, reads_of, Function, Inst, Register, TargetMayRead, operands_of, IsStatementOf, binary_left, binary_right, compared, one_operand, select_true, select_false, freeze, condition, in_turn, constant_values, value_at, IsTyping, Argument, Rule, Statement, Contains-from_get, operand_class_stands, in_turn-length, at_place, before_place, Binding, literal_of, is_copy, count_put, argument_put, class_width, operand_put, result_of_op, result_put, results_put, insts_of_op, insts_with, insts_put}
use Rattle.ops.specs.declared.value.Value.TheVariants as values
use Rattle.ir_core.specs.declared.instruction.Op.{Op}
use Rattle.ir_core.specs.declared.instruction.Op.TheVariants as ops
use Rattle.ir_core.specs.declared.operand.Operand.{Operand}
use Rattle.ir_core.specs.declared.operand.Operand.TheVariants as operands
use Rattle.ir_core.specs.declared.operand.Register.TheVariants as registers
use Rattle.rule_core.specs.declared.rule.Argument.TheVariants as arguments
use Rattle.rule_core.specs.declared.rule.Op.{Op as RuleOp}
use Rattle.rule_core.specs.declared.rule.Op.TheVariants as rule_ops
use Rattle.rule_core.specs.declared.rule.Operand.{Operand as RuleOperand}
use Rattle.rule_core.specs.declared.rule.Register.TheVariants as names
use Rattle.rule_core.proofs.Ready.{class_width as width_of_class}
use Rattle.rewriter.proofs.Computing.{computed, computed_by, IsComputed, choice_operand, inputs_of, taken_by}

-- the operation is no copy
abbrev pub IsNoCopy : RuleOp → Type 0
IsNoCopy op = is_copy op ≡ false

module _ (rule : Rule) (binding : Binding) where
  abbrev pub results : List Operand
  results = results_put rule binding

  pub results_length : length results ≡ length rule.target
  results_length = in_turn-length (result_put rule binding) [] rule.target ∙ zero-add (length rule.target)

  -- how many instructions the first t target statements become
  abbrev pub put_before : ℕ → ℕ
  put_before t = count_put (take t rule.target)

  -- the operand for the register of target statement t, given those for all of them
  abbrev pub result_at : ℕ → RuleOp → Operand
  result_at t (rule_ops.Copy a) = operand_put rule binding results a
  result_at t op = operands.Register (registers.Result binding.block (binding.place + put_before t))

  pub result_put_at : (t : ℕ) (op : RuleOp) → IsNoCopy op → result_at t op ≡ operands.Register (registers.Result binding.block (binding.place + put_before t))
  result_put_at t (rule_ops.Binary opcode flags a b) kept = refl
  result_put_at t (rule_ops.Compare pred samesign a b) kept = refl
  result_put_at t (rule_ops.Unary op truth a) kept = refl
  result_put_at t (rule_ops.Select c a b) kept = refl
  result_put_at t (rule_ops.Convert cast flags a to) kept = refl
  result_put_at t (rule_ops.Freeze a j) kept = refl
  result_put_at t (rule_ops.Copy a) kept = absurd cc

  -- an argument becomes the same operand by results that agree where it may read them
  argument_agrees : (some all : List Operand) (t N : ℕ) (a : Argument) → TargetMayRead rule t a → ((j : ℕ) (d : Operand) → j < t → get_or some j d ≡ get_or all j d) → argument_put rule binding some N a ≡ argument_put rule binding all N a
  argument_agrees some all t N (arguments.Register (names.Input i)) may same = refl
  argument_agrees some all t N (arguments.Register (names.Source j)) may same = refl
  argument_agrees some all t N (arguments.Register (names.Target j)) may same = same j operands.Poison may
  argument_agrees some all t N (arguments.Literal z) may same = refl
  argument_agrees some all t N (arguments.Truth b) may same = refl
  argument_agrees some all t N (arguments.Constant k) may same = refl
  argument_agrees some all t N (arguments.Undef k) may same = refl
  argument_agrees some all t N (arguments.Term n) may same = refl

  op_agrees : (some all : List Operand) (t : ℕ) (op : RuleOp) → length some ≡ t → ((o : RuleOperand) → Contains (operands_of op) o → TargetMayRead rule t o.value) → ((j : ℕ) (d : Operand) → j < t → get_or some j d ≡ get_or all j d)
      → all ≡ results → result_of_op rule binding some op ≡ result_at t op
  op_agrees some all t (rule_ops.Copy a) count may same is =
      argument_agrees some all t (class_width rule binding a.class) a.value (may a (Contains-from_get (a ∷ []) 0 a refl)) same ∙ ap (λ (l : List Operand). argument_put rule binding l (class_width rule binding a.class) a.value) is
  op_agrees some all t (rule_ops.Binary opcode flags a b) count may same is = ap (λ n. operands.Register (registers.Result binding.block (binding.place + put_before n))) count
  op_agrees some all t (rule_ops.Compare pred samesign a b) count may same is = ap (λ n. operands.Register (registers.Result binding.block (binding.place + put_before n))) count
  op_agrees some all t (rule_ops.Unary op truth a) count may same is = ap (λ n. operands.Register (registers.Result binding.block (binding.place + put_before n))) count
  op_agrees some all t (rule_ops.Select c a b) count may same is = ap (λ n. operands.Register (registers.Result binding.block (binding.place + put_before n))) count
  op_agrees some all t (rule_ops.Convert cast flags a to) count may same is = ap (λ n. operands.Register (registers.Result binding.block (binding.place + put_before n))) count
  op_agrees some all t (rule_ops.Freeze a j) count may same is = ap (λ n. operands.Register (registers.Result binding.block (binding.place + put_before n))) count

  module _ (target_reads : (t : ℕ) (s : Statement) (o : RuleOperand) → slice_get rule.target t ≡ Some s → Contains (operands_of s.op) o → TargetMayRead rule t o.value) where
    pub result_is : (t : ℕ) (s : Statement) → slice_get rule.target t ≡ Some s → slice_get results t ≡ Some (result_at t s.op)
    result_is t s at =
        let within : t < length rule.target = slice_get_within rule.target t s at in
        let some : List Operand = in_turn (result_put rule binding) [] (take t rule.target) in
        let count : length some ≡ t = omega (arith, in_turn-length (result_put rule binding) [] (take t rule.target), length-take t rule.target) in
        at_place (result_put rule binding) rule.target t s at
        ∙ ap (λ (o : Operand). Some o) (op_agrees some results t s.op count (λ o among. target_reads t s o at among) (λ j d less. before_place (result_put rule binding) rule.target t j d (omega arith) less) refl)

  -- ---- how many are inserted

  pub count_more : (t : ℕ) (s : Statement) → slice_get rule.target t ≡ Some s → IsNoCopy s.op → put_before (suc t) ≡ suc (put_before t)
  count_more t s at kept =
      let within : t < length rule.target = slice_get_within rule.target t s at in
      let is : get_or rule.target t s ≡ s = get_or_from_slice_get rule.target t s s at in
      let counted : not (is_copy (get_or rule.target t s).op) ≡ true = ap (λ (x : Statement). not (is_copy x.op)) is ∙ ap not kept in
      let more = rw add-one at (count_by_more_yes (λ (x : Statement). not (is_copy x.op)) rule.target t s within counted) in
      omega (arith, more)

  pub count_same : (t : ℕ) (s : Statement) → slice_get rule.target t ≡ Some s → is_copy s.op ≡ true → put_before (suc t) ≡ put_before t
  count_same t s at copies =
      let within : t < length rule.target = slice_get_within rule.target t s at in
      let is : get_or rule.target t s ≡ s = get_or_from_slice_get rule.target t s s at in
      let passed : not (is_copy (get_or rule.target t s).op) ≡ false = ap (λ (x : Statement). not (is_copy x.op)) is ∙ ap not copies in
      rw add-one at (count_by_more_no (λ (x : Statement). not (is_copy x.op)) rule.target t s within passed)

  pub count_grows : (t : ℕ) (s : Statement) → slice_get rule.target t ≡ Some s → put_before t ≤ put_before (suc t)
  count_grows t s at =
      elim (is_copy s.op) as (λ b. is_copy s.op ≡ b → put_before t ≤ put_before (suc t)) [
        | true ↦ λ is. let same = count_same t s at is in omega arith
        | false ↦ λ is. let more = count_more t s at is in omega arith
      ] refl

  -- ---- the instruction of a statement that is no copy

  abbrev pub put_op : ℕ → RuleOp → Op
  put_op N (rule_ops.Binary opcode flags a b) = ops.Binary opcode flags (operand_put rule binding results a) (operand_put rule binding results b)
  put_op N (rule_ops.Compare pred samesign a b) = ops.Compare pred samesign (class_width rule binding a.class) (operand_put rule binding results a) (operand_put rule binding results b)
  put_op N (rule_ops.Unary op truth a) = ops.Unary op truth (operand_put rule binding results a)
  put_op N (rule_ops.Select c a b) = ops.Select (operand_put rule binding results c) (operand_put rule binding results a) (operand_put rule binding results b)
  put_op N (rule_ops.Convert cast flags a to) = ops.Convert cast flags (class_width rule binding a.class) (operand_put rule binding results a)
  put_op N (rule_ops.Freeze a j) = ops.Freeze (operand_put rule binding results a)
  put_op N (rule_ops.Copy a) = ops.Freeze (operand_put rule binding results a)

  abbrev pub put_inst : Name → ℕ → RuleOp → Inst
  put_inst name N op = record { name = name; width = N; op = put_op N op }

  pub insts_are : (name : Name) (N : ℕ) (op : RuleOp) → IsNoCopy op → insts_of_op rule binding name N op ≡ put_inst name N op ∷ []
  insts_are name N (rule_ops.Binary opcode flags a b) kept = refl
  insts_are name N (rule_ops.Compare pred samesign a b) kept = refl
  insts_are name N (rule_ops.Unary op truth a) kept = refl
  insts_are name N (rule_ops.Select c a b) kept = refl
  insts_are name N (rule_ops.Convert cast flags a to) kept = refl
  insts_are name N (rule_ops.Freeze a j) kept = refl
  insts_are name N (rule_ops.Copy a) kept = absurd cc

  pub insts_none : (name : Name) (N : ℕ) (op : RuleOp) → is_copy op ≡ true → insts_of_op rule binding name N op ≡ []
  insts_none name N (rule_ops.Binary opcode flags a b) kept = absurd cc
  insts_none name N (rule_ops.Compare pred samesign a b) kept = absurd cc
  insts_none name N (rule_ops.Unary op truth a) kept = absurd cc
  insts_none name N (rule_ops.Select c a b) kept = absurd cc
  insts_none name N (rule_ops.Convert cast flags a to) kept = absurd cc
  insts_none name N (rule_ops.Freeze a j) kept = absurd cc
  insts_none name N (rule_ops.Copy a) kept = refl

  -- the instructions of a statement come before those of the statements behind it
  pub insts_apart : (name : Name) (s : Statement) (statements : List Statement) → (own : Name) × (insts_put rule binding name (s ∷ statements) ≡ insts_with rule binding own s ++ insts_put rule binding name statements)
  insts_apart name s [] = (name, sym (append-nil (insts_with rule binding name s)))
  insts_apart name s (t ∷ statements) = (None, refl)

  pub computed_same : (N : ℕ) (op : RuleOp) → IsNoCopy op → computed_by N (put_op N op) ≡ computed binding.typing N op
  computed_same N (rule_ops.Binary opcode flags a b) kept = refl
  computed_same N (rule_ops.Compare pred samesign a b) kept = refl
  computed_same N (rule_ops.Unary op truth a) kept = refl
  computed_same N (rule_ops.Select c a b) kept = refl
  computed_same N (rule_ops.Convert cast flags a to) kept = refl
  computed_same N (rule_ops.Freeze a j) kept = refl
  computed_same N (rule_ops.Copy a) kept = absurd cc

  pub put_is_computed : (N : ℕ) (op : RuleOp) → IsNoCopy op → IsComputed (put_op N op)
  put_is_computed N (rule_ops.Binary opcode flags a b) kept = tt
  put_is_computed N (rule_ops.Compare pred samesign a b) kept = tt
  put_is_computed N (rule_ops.Unary op truth a) kept = tt
  put_is_computed N (rule_ops.Select c a b) kept = tt
  put_is_computed N (rule_ops.Convert cast flags a to) kept = tt
  put_is_computed N (rule_ops.Freeze a j) kept = tt
  put_is_computed N (rule_ops.Copy a) kept = absurd cc

  -- ---- what it reads

  -- the operand that is read is that for the rule's operand, at the width of its class
  pub record ReadFor (o : RuleOperand) (r : Read) : Type 0 where
    pub operand : r.operand ≡ operand_put rule binding results o
    pub width : slice_get binding.typing o.class ≡ Some r.width

  abbrev Paired : List RuleOperand → List Read → Type 0
  Paired os rs = (n : ℕ) (o : RuleOperand) → slice_get os n ≡ Some o → (r : Read) × (slice_get rs n ≡ Some r) × ReadFor o r

  paired_none : Paired [] []
  paired_none n o at = absurd cc

  paired_more : (o : RuleOperand) (os : List RuleOperand) (r : Read) (rs : List Read) → ReadFor o r → Paired os rs → Paired (o ∷ os) (r ∷ rs)
  paired_more o os r rs here rest zero p at = (r, refl, subst (λ x. ReadFor x r) (same_Some o p at) here)
  paired_more o os r rs here rest (suc n) p at = rest n p at

  module _ (typed : IsTyping rule binding.typing) (f : Function) (b k : ℕ) where
    read_for : (o : RuleOperand) (w : ℕ) → slice_get binding.typing o.class ≡ Some w → ReadFor o (read b k w (operand_put rule binding results o))
    read_for o w width = record { operand = refl; width = width }

    -- the width of an operand's class
    own_width : (s : Statement) (o : RuleOperand) → IsStatementOf rule s → Contains (operands_of s.op) o → slice_get binding.typing o.class ≡ Some (class_width rule binding o.class)
    own_width s o stands among =
        let w = width_of_class rule binding.typing o.class typed (operand_class_stands rule s o stands among) in
        w.1 ∙ ap (λ (n : ℕ). Some n) (sym (get_or_from_slice_get binding.typing o.class w.0 0 w.1))

    reads_paired : (s : Statement) (N : ℕ) (op : RuleOp) → s.op ≡ op → IsStatementOf rule s → slice_get binding.typing s.class ≡ Some N → IsNoCopy op → Paired (operands_of op) (reads_of f b k N (put_op N op))
    reads_paired s N (rule_ops.Binary opcode flags a c) is stands width kept =
        paired_more a (c ∷ []) (read b k N (operand_put rule binding results a)) (read b k N (operand_put rule binding results c) ∷ []) (read_for a N (sym (typed.same s.class a.class (binary_left stands is)) ∙ width))
        (paired_more c [] (read b k N (operand_put rule binding results c)) [] (read_for c N (sym (typed.same s.class c.class (binary_right stands is)) ∙ width)) paired_none)
    reads_paired s N (rule_ops.Compare pred samesign a c) is stands width kept =
        let w : ℕ = class_width rule binding a.class in
        let first : slice_get binding.typing a.class ≡ Some w = own_width s a stands (subst (λ (op : RuleOp). Contains (operands_of op) a) (sym is) (Contains-from_get (a ∷ c ∷ []) 0 a refl)) in
        paired_more a (c ∷ []) (read b k w (operand_put rule binding results a)) (read b k w (operand_put rule binding results c) ∷ []) (read_for a w first)
        (paired_more c [] (read b k w (operand_put rule binding results c)) [] (read_for c w (sym (typed.same a.class c.class (compared stands is)) ∙ first)) paired_none)
    reads_paired s N (rule_ops.Unary op truth a) is stands width kept = paired_more a [] (read b k N (operand_put rule binding results a)) [] (read_for a N (sym (typed.same s.class a.class (one_operand stands is)) ∙ width)) paired_none
    reads_paired s N (rule_ops.Select c x y) is stands width kept =
        paired_more c (x ∷ y ∷ []) (read b k 1 (operand_put rule binding results c)) (read b k N (operand_put rule binding results x) ∷ read b k N (operand_put rule binding results y) ∷ []) (read_for c 1 (typed.fixed c.class 1 (condition stands is)))
        (paired_more x (y ∷ []) (read b k N (operand_put rule binding results x)) (read b k N (operand_put rule binding results y) ∷ []) (read_for x N (sym (typed.same s.class x.class (select_true stands is)) ∙ width))
        (paired_more y [] (read b k N (operand_put rule binding results y)) [] (read_for y N (sym (typed.same s.class y.class (select_false stands is)) ∙ width)) paired_none))
    reads_paired s N (rule_ops.Convert cast flags a to) is stands width kept =
        let w : ℕ = class_width rule binding a.class in
        paired_more a [] (read b k w (operand_put rule binding results a)) []
        (read_for a w (own_width s a stands (subst (λ (op : RuleOp). Contains (operands_of op) a) (sym is) (Contains-from_get (a ∷ []) 0 a refl)))) paired_none
    reads_paired s N (rule_ops.Freeze a j) is stands width kept = paired_more a [] (read b k N (operand_put rule binding results a)) [] (read_for a N (sym (typed.same s.class a.class (freeze stands is)) ∙ width)) paired_none
    reads_paired s N (rule_ops.Copy a) is stands width kept = absurd cc

    -- an instruction has an input for each input of the statement
    inputs_paired : (s : Statement) (N : ℕ) (op : RuleOp) → s.op ≡ op → IsStatementOf rule s → slice_get binding.typing s.class ≡ Some N → IsNoCopy op → Paired (inputs_of s.class op) (taken_by f b k N (put_op N op))
    inputs_paired s N (rule_ops.Binary opcode flags a c) is stands width kept = reads_paired s N (rule_ops.Binary opcode flags a c) is stands width kept
    inputs_paired s N (rule_ops.Compare pred samesign a c) is stands width kept = reads_paired s N (rule_ops.Compare pred samesign a c) is stands width kept
    inputs_paired s N (rule_ops.Unary op truth a) is stands width kept = reads_paired s N (rule_ops.Unary op truth a) is stands width kept
    inputs_paired s N (rule_ops.Select c x y) is stands width kept = reads_paired s N (rule_ops.Select c x y) is stands width kept
    inputs_paired s N (rule_ops.Convert cast flags a to) is stands width kept = reads_paired s N (rule_ops.Convert cast flags a to) is stands width kept
    inputs_paired s N (rule_ops.Freeze a j) is stands width kept =
        let choice : RuleOperand = choice_operand s.class j in
        paired_more a (choice ∷ []) (read b k N (operand_put rule binding results a)) (read b k N operands.Undef ∷ []) (read_for a N (sym (typed.same s.class a.class (freeze stands is)) ∙ width))
        (paired_more choice [] (read b k N operands.Undef) [] (record { operand = refl; width = width }) paired_none)
    inputs_paired s N (rule_ops.Copy a) is stands width kept = absurd cc

    pub put_reads : (s : Statement) (N : ℕ) → IsStatementOf rule s → slice_get binding.typing s.class ≡ Some N → IsNoCopy s.op → (n : ℕ) (o : RuleOperand) → slice_get (operands_of s.op) n ≡ Some o
        → (r : Read) × (slice_get (reads_of f b k N (put_op N s.op)) n ≡ Some r) × ReadFor o r
    put_reads s N stands width kept = reads_paired s N s.op refl stands width kept

    pub put_inputs : (s : Statement) (N : ℕ) → IsStatementOf rule s → slice_get binding.typing s.class ≡ Some N → IsNoCopy s.op → (n : ℕ) (o : RuleOperand) → slice_get (inputs_of s.class s.op) n ≡ Some o
        → (r : Read) × (slice_get (taken_by f b k N (put_op N s.op)) n ≡ Some r) × ReadFor o r
    put_inputs s N stands width kept = inputs_paired s N s.op refl stands width kept

  -- ---- no result of a later instruction is read

  -- the operand is not the result of the n-th inserted instruction or of one behind it
  abbrev pub IsSettled : ℕ → Operand → Type 0
  IsSettled n a = (p : ℕ) → a ≡ operands.Register (registers.Result binding.block p) → p < binding.place + n

  pub settled_later : (n m : ℕ) (a : Operand) → n ≤ m → IsSettled n a → IsSettled m a
  settled_later n m a le settled p is = let lt : p < binding.place + n = settled p is in omega arith

  literal_settled : (n : ℕ) (v : Value) → IsSettled n (literal_of v)
  literal_settled n values.Poison p is = absurd cc
  literal_settled n (values.Bits m) p is = absurd cc

  module _ (target_reads : (t : ℕ) (s : Statement) (o : RuleOperand) → slice_get rule.target t ≡ Some s → Contains (operands_of s.op) o → TargetMayRead rule t o.value)
      (inputs_settled : (i : ℕ) (a : Operand) → slice_get binding.inputs i ≡ Some a → IsSettled 0 a)
      (statements_settled : (j : ℕ) (reg : Register) → suc j < length rule.source → slice_get binding.statements j ≡ Some reg → IsSettled 0 (operands.Register reg))
      (inputs_count : length binding.inputs ≡ length rule.inputs) (statements_count : length binding.statements ≡ length rule.source) where
    input_at : (i : ℕ) → i < length rule.inputs → slice_get binding.inputs i ≡ Some (slice_index_or binding.inputs i operands.Poison)
    input_at i lt = slice_get-get_or binding.inputs i operands.Poison (omega arith)

    -- the operands for the first t statements
    abbrev FirstSettled : ℕ → Type 0
    FirstSettled t = (j : ℕ) (a : Operand) → j < t → slice_get results j ≡ Some a → IsSettled (put_before t) a

    argument_settled : (t N : ℕ) (a : Argument) → t ≤ length rule.target → FirstSettled t → TargetMayRead rule t a → IsSettled (put_before t) (argument_put rule binding results N a)
    argument_settled t N (arguments.Register (names.Input i)) le first may = settled_later 0 (put_before t) (slice_index_or binding.inputs i operands.Poison) (omega arith) (inputs_settled i (slice_index_or binding.inputs i operands.Poison) (input_at i may))
    argument_settled t N (arguments.Register (names.Source j)) le first may =
        let none : Register = registers.Parameter 0 in
        let reg : Register = get_or binding.statements j none in
        let there : slice_get binding.statements j ≡ Some reg = slice_get-get_or binding.statements j none (omega arith) in
        subst (λ o. IsSettled (put_before t) (option_map_or operands.Register o operands.Poison)) (sym there) (settled_later 0 (put_before t) (operands.Register reg) (omega arith) (statements_settled j reg may there))
    argument_settled t N (arguments.Register (names.Target j)) le first may =
        first j (slice_index_or results j operands.Poison) may (slice_get-get_or results j operands.Poison (omega (arith, results_length)))
    argument_settled t N (arguments.Literal z) le first may = λ p is. absurd cc
    argument_settled t N (arguments.Truth b) le first may = λ p is. absurd cc
    argument_settled t N (arguments.Constant k) le first may = λ p is.
        elim (slice_get binding.constants k) as (λ o. option_map_or operands.Number o operands.Poison ≡ operands.Register (registers.Result binding.block p) → p < binding.place + put_before t) [ None ↦ λ is. absurd cc | Some n ↦ λ is. absurd cc ] is
    argument_settled t N (arguments.Undef k) le first may = λ p is. absurd cc
    argument_settled t N (arguments.Term n) le first may = literal_settled (put_before t) (value_at (constant_values binding.typing binding.constants rule) n)

    own_settled : (t : ℕ) (s : Statement) → slice_get rule.target t ≡ Some s → IsNoCopy s.op → IsSettled (put_before (suc t)) (operands.Register (registers.Result binding.block (binding.place + put_before t)))
    own_settled t s at kept p is =
        let more : put_before (suc t) ≡ suc (put_before t) = count_more t s at kept in
        let same : binding.place + put_before t ≡ p = cc in
        omega arith

    result_settled : (t : ℕ) (s : Statement) (op : RuleOp) → s.op ≡ op → slice_get rule.target t ≡ Some s → FirstSettled t → IsSettled (put_before (suc t)) (result_at t op)
    result_settled t s (rule_ops.Copy a) is at first =
        let same : put_before (suc t) ≡ put_before t = count_same t s at (ap is_copy is) in
        let within : t < length rule.target = slice_get_within rule.target t s at in
        subst (λ n. IsSettled n (operand_put rule binding results a)) (sym same)
        (argument_settled t (class_width rule binding a.class) a.value (omega arith) first (target_reads t s a at (subst (λ (op : RuleOp). Contains (operands_of op) a) (sym is) (Contains-from_get (a ∷ []) 0 a refl))))
    result_settled t s (rule_ops.Binary opcode flags a b) is at first = own_settled t s at (ap is_copy is)
    result_settled t s (rule_ops.Compare pred samesign a b) is at first = own_settled t s at (ap is_copy is)
    result_settled t s (rule_ops.Unary op truth a) is at first = own_settled t s at (ap is_copy is)
    result_settled t s (rule_ops.Select c a b) is at first = own_settled t s at (ap is_copy is)
    result_settled t s (rule_ops.Convert cast flags a to) is at first = own_settled t s at (ap is_copy is)
    result_settled t s (rule_ops.Freeze a j) is at first = own_settled t s at (ap is_copy is)

    pub first_settled : (t : ℕ) → t ≤ length rule.target → FirstSettled t
    first_settled zero le j a lt at = absurd (omega arith)
    first_settled (suc t) le j a lt at =
        let none : Statement = record { name = []; class = 0; op = rule_ops.Copy (record { value = arguments.Truth true; written = None; class = 0 }) } in
        let s : Statement = get_or rule.target t none in
        let there : slice_get rule.target t ≡ Some s = slice_get-get_or rule.target t none (omega arith) in
        let before : FirstSettled t = first_settled t (omega arith) in
        elim (cases_lt j t) [
          | inl less ↦ settled_later (put_before t) (put_before (suc t)) a (count_grows t s there) (before j a less at)
          | inr behind ↦
              let same : j ≡ t = omega arith in
              let here : slice_get results t ≡ Some a = subst (λ n. slice_get results n ≡ Some a) same at in
              subst (λ (x : Operand). IsSettled (put_before (suc t)) x) (same_Some (result_at t s.op) a (sym (result_is target_reads t s there) ∙ here)) (result_settled t s s.op refl there before)
        ]
