-- The rule's target does what the inserted instructions do, with the numbers that these take for choices.
use Rattle.rewriter.proofs.Common.{◌≡◌, ℕ, zero, suc, ◌+◌, ◌<◌, ◌≤◌, ◌⊎◌, inl, inr, true, false, List, [], ◌∷◌, ◌++◌, length, length-append, append_assoc, Option, Some, refl, sym, ap, subst, ◌∙◌, arith, get_or, slice_get, slice_index_or, Contains, if◌then◌else◌, option_map, option_map_or, cases_lt, length-map, same_Some, slice_get-get_or, slice_get-map, slice_get_within, get_or_from_slice_get, residue, bits, Number, IsValueOf, Value, Effect, Name, Read, read, Registers, AnyNumber, holding, IsChosen, OperandGives, OpGives, Function, Inst, Register, IsRule, TargetMayRead, ReadsNoUndefAlone, Choice, operands_of, choices_of, choices_among, LeavesOpen, IsOperandAmong, IsStatementOf, copy, Held, Given, Ending, Undefines, Holds, given_by, holding_target, Follows, StatementGives, ArgumentGives, constant_values, value_at, number_or_zero, IsTyping, Argument, Rule, Statement, Contains-from_get, Contains-flat_map, flat_map-from, target_statement, class_stands, statement_open, RunsOn, RunsThrough, get_left, get_right, get_cases, held_here, held_elsewhere, NamesTemporary, TargetNamesTemporary, Binding, literal_of, is_copy, argument_put, class_width, operand_put, insts_with, insts_put}
use Rattle.ops.specs.declared.value.Value.TheVariants as values
use Rattle.ops.specs.declared.value.Effect.TheVariants as effects
use Rattle.ir_core.specs.declared.operand.Operand.{Operand}
use Rattle.ir_core.specs.declared.operand.Operand.TheVariants as operands
use Rattle.ir_core.specs.declared.operand.Register.TheVariants as registers
use Rattle.rule_core.specs.Run.{OperandGives as RuleOperandGives, OpGives as RuleOpGives}
use Rattle.rule_core.specs.declared.rule.Argument.TheVariants as arguments
use Rattle.rule_core.specs.declared.rule.Op.{Op as RuleOp}
use Rattle.rule_core.specs.declared.rule.Op.TheVariants as rule_ops
use Rattle.rule_core.specs.declared.rule.Operand.{Operand as RuleOperand}
use Rattle.rule_core.specs.declared.rule.Register.TheVariants as names
use Rattle.rule_core.proofs.Ready.{class_width as width_of_class}
use Rattle.rewriter.proofs.Computing.{Computation, effect_of, computed, IsComputed, number_of, choice_operand, inputs_of, taken_by, collected, rule_gives, op_computes, effects_same, no_values}
use Rattle.rewriter.proofs.Source.{IsDefined}
use Rattle.rewriter.proofs.Picks.{places, open_in, undefs_of, picked, picked_length, picked_at, picked_from, PickedFrom, InOrder, in_order_left, in_order_right, statement_open_in, undefs_apart, input_open, zero_for, zeros, zero_from, zero_fits}
use Rattle.rewriter.proofs.Putting.{IsNoCopy, results, results_length, put_before, result_at, result_is, count_more, count_same, put_op, put_inst, insts_are, insts_none, insts_apart, computed_same, put_is_computed, result_put_at, ReadFor, put_inputs, IsSettled, settled_later, first_settled}

pub undef_or : (a : Argument) → ((k : ℕ) × (a ≡ arguments.Undef k)) ⊎ IsDefined a
undef_or (arguments.Undef k) = inl (k, refl)
undef_or (arguments.Register r) = inr (λ k is. cc)
undef_or (arguments.Literal z) = inr (λ k is. cc)
undef_or (arguments.Truth b) = inr (λ k is. cc)
undef_or (arguments.Constant k) = inr (λ k is. cc)
undef_or (arguments.Term n) = inr (λ k is. cc)

-- the operand that a copy copies
copied_of : (op : RuleOp) → is_copy op ≡ true → (a : RuleOperand) × (op ≡ rule_ops.Copy a)
copied_of (rule_ops.Copy a) is = (a, refl)
copied_of (rule_ops.Binary opcode flags a b) is = absurd cc
copied_of (rule_ops.Compare pred samesign a b) is = absurd cc
copied_of (rule_ops.Unary op truth a) is = absurd cc
copied_of (rule_ops.Select c a b) is = absurd cc
copied_of (rule_ops.Convert cast flags a to) is = absurd cc
copied_of (rule_ops.Freeze a k) is = absurd cc

-- the operand of a copy is no `undef`
only_operand : (a : RuleOperand) (i : ℕ) (o : RuleOperand) (k : ℕ) → IsDefined a.value → slice_get (a ∷ []) i ≡ Some o → o.value ≡ arguments.Undef k → ⊥
only_operand a zero o k defined at is = defined k (ap (λ (x : RuleOperand). x.value) (same_Some a o at) ∙ is)
only_operand a (suc i) o k defined at is = absurd cc

-- what a freeze has as an input beside its operand is an `undef`
taken_operand : (c : ℕ) (op : RuleOp) (i : ℕ) (o : RuleOperand) → IsDefined o.value → slice_get (inputs_of c op) i ≡ Some o → slice_get (operands_of op) i ≡ Some o
taken_operand c (rule_ops.Freeze a k) zero o defined at = at
taken_operand c (rule_ops.Freeze a k) (suc zero) o defined at = absurd (defined k (ap (λ (x : RuleOperand). x.value) (sym (same_Some (choice_operand c k) o at))))
taken_operand c (rule_ops.Freeze a k) (suc (suc i)) o defined at = absurd cc
taken_operand c (rule_ops.Binary opcode flags a b) i o defined at = at
taken_operand c (rule_ops.Compare pred samesign a b) i o defined at = at
taken_operand c (rule_ops.Unary op truth a) i o defined at = at
taken_operand c (rule_ops.Select z a b) i o defined at = at
taken_operand c (rule_ops.Convert cast flags a to) i o defined at = at
taken_operand c (rule_ops.Copy a) i o defined at = at

-- the operand gives u, if it gives anything
abbrev pub GivesOnly : Registers → Value → Operand → Type 0
GivesOnly new u a = (w : ℕ) (v' : Value) → OperandGives AnyNumber new w a v' → v' ≡ u

number_only : (new : Registers) (n : Number) → GivesOnly new (values.Bits n) (operands.Number n)
number_only new n w v' h = h

module _ (rule : Rule) (binding : Binding) where
  -- After t target statements: in the new function, an operand that stands for a name of the rule gives only the value
  -- that the name holds.
  pub record Ready (t : ℕ) (H : Held) (new : Registers) : Type 0 where
    pub inputs : (i : ℕ) (a : Operand) → slice_get binding.inputs i ≡ Some a → (u : Value) × (slice_get H.inputs i ≡ Some u) × GivesOnly new u a
    pub source : TargetNamesTemporary rule → (j : ℕ) (reg : Register) → suc j < length rule.source → slice_get binding.statements j ≡ Some reg → (u : Value) × (slice_get H.source j ≡ Some u) × GivesOnly new u (operands.Register reg)
    pub target : (j : ℕ) (a : Operand) → j < t → slice_get (results rule binding) j ≡ Some a → (u : Value) × (slice_get H.target j ≡ Some u) × GivesOnly new u a
    pub count : length H.target ≡ t

  abbrev pub given : List Number → Given
  given choices = given_by binding.typing binding.constants choices rule

  -- a constant term has a number of the width N
  abbrev pub TermFits : ℕ → ℕ → Type 0
  TermFits n N = (m : ℕ) × (value_at (constant_values binding.typing binding.constants rule) n ≡ bits N m)

  module _ (inputs_count : length binding.inputs ≡ length rule.inputs) (statements_count : length binding.statements ≡ length rule.source) (constants_count : length binding.constants ≡ length rule.constants) (t : ℕ) (within : t ≤ length rule.target) (H : Held) (new : Registers) (ready : Ready t H new) where
    -- the value of an argument, whatever numbers are chosen for `undef`s
    target_argument : (N : ℕ) (a : Argument) → TargetMayRead rule t a → IsDefined a → (NamesTemporary rule.terms a → TargetNamesTemporary rule) → ((n : ℕ) → a ≡ arguments.Term n → TermFits n N)
        → (u : Value) × ((choices : List Number) → ArgumentGives binding.typing (given choices) H N a u) × GivesOnly new u (argument_put rule binding (results rule binding) N a)
    target_argument N (arguments.Register (names.Input i)) may defined reads fits =
        let a : Operand = slice_index_or binding.inputs i operands.Poison in
        let r = ready.inputs i a (slice_get-get_or binding.inputs i operands.Poison (omega arith)) in
        (r.0, λ choices. r.1, r.2)
    target_argument N (arguments.Register (names.Source j)) may defined reads fits =
        let none : Register = registers.Parameter 0 in
        let reg : Register = get_or binding.statements j none in
        let there : slice_get binding.statements j ≡ Some reg = slice_get-get_or binding.statements j none (omega arith) in
        let r = ready.source (reads tt) j reg may there in
        (r.0, λ choices. r.1, subst (λ o. GivesOnly new r.0 (option_map_or operands.Register o operands.Poison)) (sym there) r.2)
    target_argument N (arguments.Register (names.Target j)) may defined reads fits =
        let a : Operand = slice_index_or (results rule binding) j operands.Poison in
        let r = ready.target j a may (slice_get-get_or (results rule binding) j operands.Poison (omega (arith, results_length rule binding))) in
        (r.0, λ choices. r.1, r.2)
    target_argument N (arguments.Literal z) may defined reads fits =
        let n : Number = record { width = N; number = residue N z } in
        (values.Bits n, λ choices. refl, number_only new n)
    target_argument N (arguments.Truth b) may defined reads fits =
        let n : Number = record { width = N; number = (if b then 1 else 0) } in
        (values.Bits n, λ choices. refl, number_only new n)
    target_argument N (arguments.Constant k) may defined reads fits =
        let none : Number = record { width = 0; number = 0 } in
        let n : Number = get_or binding.constants k none in
        let there : slice_get binding.constants k ≡ Some n = slice_get-get_or binding.constants k none (omega arith) in
        (values.Bits n, λ choices. (n, there, refl), subst (λ o. GivesOnly new (values.Bits n) (option_map_or operands.Number o operands.Poison)) (sym there) (number_only new n))
    target_argument N (arguments.Undef k) may defined reads fits = absurd (defined k refl)
    target_argument N (arguments.Term n) may defined reads fits =
        let m = fits n refl in
        let number : Number = record { width = N; number = m.0 } in
        (values.Bits number, λ choices. ap (λ v. bits N (number_or_zero v)) (sym m.1), subst (λ v. GivesOnly new (values.Bits number) (literal_of v)) (sym m.1) (number_only new number))

  -- ---- registers with a new value

  settled_gives : (n q w : ℕ) (a : Operand) (held : Registers) (v v' : Value) → IsSettled rule binding n a → binding.place + n ≤ q → OperandGives AnyNumber (holding held binding.block q v) w a v' → OperandGives AnyNumber held w a v'
  settled_gives n q w (operands.Register (registers.Parameter p)) held v v' settled le h = h
  settled_gives n q w (operands.Register (registers.Result d p)) held v v' settled le h =
      let other : ¬ ((d ≡ binding.block) × (p ≡ q)) = λ both.
      let lt : p < binding.place + n = settled p (ap (λ b. operands.Register (registers.Result b p)) both.0) in
      let same : p ≡ q = both.1 in omega arith in
      sym (held_elsewhere held binding.block q v d p other) ∙ h
  settled_gives n q w (operands.Number m) held v v' settled le h = h
  settled_gives n q w operands.Undef held v v' settled le h = h
  settled_gives n q w operands.Poison held v v' settled le h = h

  only_still : (n q : ℕ) (a : Operand) (held : Registers) (v u : Value) → IsSettled rule binding n a → binding.place + n ≤ q → GivesOnly held u a → GivesOnly (holding held binding.block q v) u a
  only_still n q a held v u settled le only w v' h = only w v' (settled_gives n q w a held v v' settled le h)

  module _ (checked : IsRule rule) (typed : IsTyping rule binding.typing)
      (inputs_count : length binding.inputs ≡ length rule.inputs) (statements_count : length binding.statements ≡ length rule.source) (constants_count : length binding.constants ≡ length rule.constants)
      (inputs_settled : (i : ℕ) (a : Operand) → slice_get binding.inputs i ≡ Some a → IsSettled rule binding 0 a)
      (statements_settled : (j : ℕ) (reg : Register) → suc j < length rule.source → slice_get binding.statements j ≡ Some reg → IsSettled rule binding 0 (operands.Register reg))
      (terms_fit : (o : RuleOperand) (n N : ℕ) → IsOperandAmong rule.target o → o.value ≡ arguments.Term n → slice_get binding.typing o.class ≡ Some N → TermFits n N) where
    results_settled : (t : ℕ) → t ≤ length rule.target → (j : ℕ) (a : Operand) → j < t → slice_get (results rule binding) j ≡ Some a → IsSettled rule binding (put_before rule binding t) a
    results_settled = first_settled rule binding checked.target_reads inputs_settled statements_settled inputs_count statements_count

    -- after one statement more
    ready_next : (t : ℕ) (s : Statement) (H : Held) (held new : Registers) (u : Value) → slice_get rule.target t ≡ Some s → Ready t H held
        → ((a : Operand) (x : Value) → IsSettled rule binding (put_before rule binding t) a → GivesOnly held x a → GivesOnly new x a)
        → GivesOnly new u (result_at rule binding t s.op) → Ready (suc t) (holding_target H u) new
    ready_next t s H held new u at ready still last =
        let within : t < length rule.target = slice_get_within rule.target t s at in
        let count : length H.target ≡ t = ready.count in
        record {
          inputs = λ i a here. let r = ready.inputs i a here in (r.0, r.1, still a r.0 (settled_later rule binding 0 (put_before rule binding t) a (omega arith) (inputs_settled i a here)) r.2);
          source = λ reads j reg lt here. let r = ready.source reads j reg lt here in
              (r.0, r.1, still (operands.Register reg) r.0 (settled_later rule binding 0 (put_before rule binding t) (operands.Register reg) (omega arith) (statements_settled j reg lt here)) r.2);
          target = λ j a lt here. elim (cases_lt j t) [
            | inl before ↦ let r = ready.target j a before here in (r.0, get_left H.target (u ∷ []) j r.0 r.1, still a r.0 (results_settled t (omega arith) j a before here) r.2)
            | inr behind ↦
                let same : j ≡ t = omega arith in
                let there : slice_get (results rule binding) t ≡ Some a = subst (λ n. slice_get (results rule binding) n ≡ Some a) same here in
                let is : result_at rule binding t s.op ≡ a = same_Some (result_at rule binding t s.op) a (sym (result_is rule binding checked.target_reads t s at) ∙ there) in
                (u, get_right H.target (u ∷ []) 0 j u refl (omega arith), subst (λ x. GivesOnly new u x) is last)
          ];
          count = length-append H.target (u ∷ []) ∙ omega arith;
        }

    -- the numbers are for the target's choices from the m-th on, and of their widths
    abbrev pub NumbersFit : ℕ → List Number → Type 0
    NumbersFit m numbers = (q : ℕ) (n : Number) → slice_get numbers q ≡ Some n → (c : ℕ) × LeavesOpen rule.target (m + q) c × ((N : ℕ) → slice_get binding.typing c ≡ Some N → IsValueOf N (values.Bits n))

    picked_fit : (m : ℕ) (operands : List RuleOperand) (x : ℕ → Value) → InOrder m (undefs_of operands)
        → ((i : ℕ) (o : RuleOperand) (k : ℕ) → slice_get operands i ≡ Some o → o.value ≡ arguments.Undef k → LeavesOpen rule.target k o.class)
        → ((i : ℕ) (o : RuleOperand) (k N : ℕ) → slice_get operands i ≡ Some o → o.value ≡ arguments.Undef k → slice_get binding.typing o.class ≡ Some N → IsValueOf N (values.Bits (number_of (x i)))) → NumbersFit m (picked operands x)
    picked_fit m os x order opens fits q n at =
        let from : PickedFrom os x q n = picked_from os x q n at in
        let place : from.2 ≡ m + q = order q from.2 from.5 in (
          from.1.class,
          subst (λ k. LeavesOpen rule.target k from.1.class) place (opens from.0 from.1 from.2 from.3 from.4),
          λ N width. subst (λ (y : Number). IsValueOf N (values.Bits y)) from.6 (fits from.0 from.1 from.2 N from.3 from.4 width),
        )

    zeros_fit : (m : ℕ) (choices : List Choice) → InOrder m (places choices) → ((choice : Choice) → Contains choices choice → Contains (choices_among rule.target) choice) → NumbersFit m (zeros binding.typing choices)
    zeros_fit m choices order inside q n at =
        let from = zero_from binding.typing choices q n at in
        let place : from.0.place ≡ m + q = order q from.0.place (slice_get-map (λ (c : Choice). c.place) choices q ∙ ap (option_map (λ (c : Choice). c.place)) from.1) in (
          from.0.class,
          subst (λ k. LeavesOpen rule.target k from.0.class) place (inside from.0 (Contains-from_get choices q from.0 from.1)),
          λ N width. subst (λ (y : Number). IsValueOf N (values.Bits y)) (sym from.2) (zero_fits binding.typing from.0 N width),
        )

    numbers_append : (m : ℕ) (xs ys : List Number) → NumbersFit m xs → NumbersFit (m + length xs) ys → NumbersFit m (xs ++ ys)
    numbers_append m xs ys first second q n at =
        elim (get_cases xs ys q n at) [
          | inl here ↦ first q n here
          | inr later ↦
              let r = second later.0 n later.2 in
              let place : (m + length xs) + later.0 ≡ m + q = let e : q ≡ length xs + later.0 = later.1 in omega arith in
              (r.0, subst (λ k. LeavesOpen rule.target k r.0) place r.1, r.2)
        ]

    -- how the target ends: where it has no undefined behaviour, the inserted instructions have none
    abbrev pub Ends : ℕ → Ending → Option Registers → Type 0
    Ends t Undefines after = Unit {0}
    Ends t (Holds H) after = (new : Registers) × (after ≡ Some new) × Ready t H new

    -- the numbers that are taken for the choices of these statements, and how they end with these
    pub record Done (statements : List Statement) (t : ℕ) (before : List Number) (H : Held) (after : Option Registers) : Type 0 where
      pub numbers : List Number
      pub count : length numbers ≡ length (choices_among statements)
      pub fit : NumbersFit (length before) numbers
      pub end : Ending
      pub follows : Follows binding.typing (given (before ++ numbers)) holding_target statements H end
      pub ends : Ends (t + length statements) end after

    -- the choices of these statements are choices of the target
    abbrev AllOpen : List Statement → Type 0
    AllOpen statements = (choice : Choice) → Contains (choices_among statements) choice → Contains (choices_among rule.target) choice

    -- ---- one statement

    module _ (t : ℕ) (s : Statement) (at : slice_get rule.target t ≡ Some s) where
      stands : IsStatementOf rule s
      stands = target_statement rule t s at

      among : (i : ℕ) (o : RuleOperand) → slice_get (operands_of s.op) i ≡ Some o → IsOperandAmong rule.target o
      among i o here = Contains-flat_map (λ (s : Statement). operands_of s.op) rule.target s o (Contains-from_get rule.target t s at) (Contains-from_get (operands_of s.op) i o here)

      names_temporary : (i : ℕ) (o : RuleOperand) → slice_get (operands_of s.op) i ≡ Some o → NamesTemporary rule.terms o.value → TargetNamesTemporary rule
      names_temporary i o here is = (o, among i o here, is)

      -- the inputs of the statement, choices among them
      abbrev inputs : List RuleOperand
      inputs = inputs_of s.class s.op

      opens : (i : ℕ) (o : RuleOperand) (k : ℕ) → slice_get inputs i ≡ Some o → o.value ≡ arguments.Undef k → LeavesOpen rule.target k o.class
      opens i o k here is = statement_open rule.target s (record { place = k; class = o.class }) (Contains-from_get rule.target t s at) (input_open s i o k here is)

      class_is : (o : RuleOperand) (w : ℕ) → slice_get binding.typing o.class ≡ Some w → class_width rule binding o.class ≡ w
      class_is o w width = get_or_from_slice_get binding.typing o.class w 0 width

      -- the operand for an `undef` is `undef`
      undef_read : (o : RuleOperand) (r : Read) (k : ℕ) → ReadFor rule binding o r → o.value ≡ arguments.Undef k → r.operand ≡ operands.Undef
      undef_read o r k for is = for.operand ∙ ap (argument_put rule binding (results rule binding) (class_width rule binding o.class)) is

      chosen_number : (w : ℕ) (v : Value) → IsChosen AnyNumber w v → (v ≡ values.Bits (number_of v)) × IsValueOf w (values.Bits (number_of v))
      chosen_number w v (n, below, is) = subst (λ x. (x ≡ values.Bits (number_of x)) × IsValueOf w (values.Bits (number_of x))) (sym is) (refl, (refl, below))

      undef_number : (o : RuleOperand) (r : Read) (k : ℕ) (new : Registers) (v : Value) → ReadFor rule binding o r → o.value ≡ arguments.Undef k → OperandGives AnyNumber new r.width r.operand v → (v ≡ values.Bits (number_of v)) × IsValueOf r.width (values.Bits (number_of v))
      undef_number o r k new v for is gives = chosen_number r.width v (subst (λ a. OperandGives AnyNumber new r.width a v) (undef_read o r k for is) gives)

      -- An input of the statement has the value that the instruction reads for it; and for an `undef` the number that
      -- this takes.
      module _ (before : List Number) (H : Held) (new : Registers) (ready : Ready t H new) where
        abbrev OneOperand : (ℕ → Value) → ℕ → RuleOperand → Value → Type 0
        OneOperand x i o u = (x i ≡ u) × ((more : List Number) → RuleOperandGives binding.typing (given (before ++ (picked inputs x ++ more))) H o u)

        undef_operand : (x : ℕ → Value) → InOrder (length before) (undefs_of inputs)
            → (i : ℕ) (o : RuleOperand) (r : Read) (k : ℕ) → slice_get inputs i ≡ Some o → ReadFor rule binding o r → o.value ≡ arguments.Undef k → OperandGives AnyNumber new r.width r.operand (x i)
            → (u : Value) × OneOperand x i o u
        undef_operand x order i o r k here for is gives =
            let number = undef_number o r k new (x i) for is gives in
            let p = picked_at inputs x i o k here is in
            let place : k ≡ length before + p.0 = order p.0 k p.1 in
            let one : (more : List Number) → RuleOperandGives binding.typing (given (before ++ (picked inputs x ++ more))) H o (x i) = λ more.
            let there : slice_get (before ++ (picked inputs x ++ more)) k ≡ Some (number_of (x i)) = get_right before (picked inputs x ++ more) p.0 k (number_of (x i)) (get_left (picked inputs x) more p.0 (number_of (x i)) p.2) place in
            (r.width, for.width, subst (λ a. ArgumentGives binding.typing (given (before ++ (picked inputs x ++ more))) H r.width a (x i)) (sym is) (number_of (x i), there, number.0)) in
            (x i, (refl, one))

        defined_operand : (i : ℕ) (o : RuleOperand) (r : Read) → slice_get (operands_of s.op) i ≡ Some o → slice_get binding.typing o.class ≡ Some r.width → IsDefined o.value
            → (u : Value) × ((choices : List Number) → ArgumentGives binding.typing (given choices) H r.width o.value u) × GivesOnly new u (operand_put rule binding (results rule binding) o)
        defined_operand i o r here width defined =
            let within : t < length rule.target = slice_get_within rule.target t s at in
            let g = target_argument inputs_count statements_count constants_count t (omega arith) H new ready r.width o.value (checked.target_reads t s o at (Contains-from_get (operands_of s.op) i o here)) defined (names_temporary i o here)
            (λ n is. terms_fit o n r.width (among i o here) is width) in
            (g.0, g.1, subst (λ w. GivesOnly new g.0 (argument_put rule binding (results rule binding) w o.value)) (sym (class_is o r.width width)) g.2)

        one_operand : (x : ℕ → Value) → InOrder (length before) (undefs_of inputs)
            → (i : ℕ) (o : RuleOperand) (r : Read) → slice_get inputs i ≡ Some o → ReadFor rule binding o r → OperandGives AnyNumber new r.width r.operand (x i)
            → (u : Value) × OneOperand x i o u
        one_operand x order i o r here for gives =
            elim (undef_or o.value) [
              | inl undef ↦ undef_operand x order i o r undef.0 here for undef.1 gives
              | inr defined ↦
                  let g = defined_operand i o r (taken_operand s.class s.op i o defined here) for.width defined in
                  (g.0, (g.2 r.width (x i) (subst (λ a. OperandGives AnyNumber new r.width a (x i)) for.operand gives), λ more. (r.width, for.width, g.1 (before ++ (picked inputs x ++ more)))))
            ]

        -- the numbers that are taken for choices are of their widths
        abbrev PicksFit : (ℕ → Value) → Type 0
        PicksFit x = (i : ℕ) (o : RuleOperand) (k N : ℕ) → slice_get inputs i ≡ Some o → o.value ≡ arguments.Undef k → slice_get binding.typing o.class ≡ Some N → IsValueOf N (values.Bits (number_of (x i)))

        abbrev GivesThen : (ℕ → Value) → Effect → Type 0
        GivesThen x e = (more : List Number) → StatementGives binding.typing (given (before ++ (picked inputs x ++ more))) H s e

        -- a statement has the effect that its instruction has
        put_step : (f : Function) (N : ℕ) (e' : Effect) → slice_get binding.typing s.class ≡ Some N → IsNoCopy s.op → InOrder (length before) (undefs_of inputs) → OpGives AnyNumber new N (put_op rule binding N s.op) e'
            → (x : ℕ → Value) × GivesThen x e' × PicksFit x
        put_step f N e' width kept order gives =
            let is : IsComputed (put_op rule binding N s.op) = put_is_computed rule binding N s.op kept in
            let x = op_computes f 0 0 new N (put_op rule binding N s.op) e' is gives in
            let reads : (i : ℕ) (o : RuleOperand) → slice_get inputs i ≡ Some o → (r : Read) × (slice_get (taken_by f 0 0 N (put_op rule binding N s.op)) i ≡ Some r) × ReadFor rule binding o r = put_inputs rule binding typed f 0 0 s N stands width kept in
            let u = collected (OneOperand x.0) inputs (λ i o here. let r = reads i o here in one_operand x.0 order i o r.0 here r.2 (x.1 i r.0 r.1)) in
            let e : Effect = effect_of (computed binding.typing N s.op) u.0 in
            let own : Effect = effect_of (computed binding.typing N s.op) x.0 in
            let by_values : e ≡ own = effects_same binding.typing s.class N s.op u.0 x.0 (λ i o here. sym (u.1 i o here).0) in
            let same : e ≡ e' = by_values ∙ ap (λ (c : Computation). effect_of c x.0) (sym (computed_same rule binding N s.op kept)) ∙ sym x.2 in (
              x.0,
              λ more. subst (λ d. StatementGives binding.typing (given (before ++ (picked inputs x.0 ++ more))) H s d) same
                  (N, width, rule_gives binding.typing (given (before ++ (picked inputs x.0 ++ more))) H s.class N width s.op u.0 (λ i o here. (u.1 i o here).1 more)),
              λ i o k M here undef class.
                  let r = reads i o here in
                  let w : r.0.width ≡ M = same_Some r.0.width M (sym r.2.width ∙ class) in
                  subst (λ n. IsValueOf n (values.Bits (number_of (x.0 i)))) w (undef_number o r.0 k new (x.0 i) r.2 undef (x.1 i r.0 r.1)).1,
            )

        copy_step : (N : ℕ) (a : RuleOperand) → slice_get binding.typing s.class ≡ Some N → s.op ≡ rule_ops.Copy a → (u : Value) × GivesThen no_values (effects.Gives u) × PicksFit no_values × GivesOnly new u (result_at rule binding t s.op)
        copy_step N a width is =
            let here : slice_get (operands_of s.op) 0 ≡ Some a = ap (λ (op : RuleOp). slice_get (operands_of op) 0) is in
            let defined : IsDefined a.value = subst ReadsNoUndefAlone is (checked.target_undefs t s at) in
            let class : slice_get binding.typing a.class ≡ Some N = sym (typed.same s.class a.class (copy stands is)) ∙ width in
            let r : Read = read 0 0 N operands.Poison in
            let g = defined_operand 0 a r here class defined in
            let gives : GivesThen no_values (effects.Gives g.0) = λ more.
            (N, width, subst (λ (op : RuleOp). RuleOpGives binding.typing (given (before ++ (picked inputs no_values ++ more))) H N op (effects.Gives g.0)) (sym is) (g.0, (N, class, g.1 (before ++ (picked inputs no_values ++ more))), refl)) in
            let none : PicksFit no_values = λ i o k M at_o undef class_o.
            absurd (only_operand a i o k defined (subst (λ (op : RuleOp). slice_get (inputs_of s.class op) i ≡ Some o) is at_o) undef) in
            (g.0, gives, none, subst (λ (op : RuleOp). GivesOnly new g.0 (result_at rule binding t op)) (sym is) g.2)

        -- a statement, and those behind it
        module _ (statements : List Statement) (after : Option Registers) where
          rest_order : (x : ℕ → Value) → InOrder (length before) (places (choices_among (s ∷ statements))) → InOrder (length (before ++ picked inputs x)) (places (choices_among statements))
          rest_order x order =
              let apart : InOrder (length before) (undefs_of inputs ++ places (choices_among statements)) = subst (InOrder (length before)) (undefs_apart s statements) order in
              let count : length before + length (undefs_of inputs) ≡ length (before ++ picked inputs x) = omega (arith, length-append before (picked inputs x), picked_length inputs x) in
              subst (λ m. InOrder m (places (choices_among statements))) count (in_order_right (length before) (undefs_of inputs) (places (choices_among statements)) apart)

          own_order : InOrder (length before) (places (choices_among (s ∷ statements))) → InOrder (length before) (undefs_of inputs)
          own_order order = in_order_left (length before) (undefs_of inputs) (places (choices_among statements)) (subst (InOrder (length before)) (undefs_apart s statements) order)

          both_count : (x : ℕ → Value) (numbers : List Number) → length numbers ≡ length (choices_among statements) → length (picked inputs x ++ numbers) ≡ length (choices_among (s ∷ statements))
          both_count x numbers count =
              let own : length (choices_of s) ≡ length (undefs_of inputs) = ap length (statement_open_in s) ∙ sym (length-map (open_in inputs) (λ (c : Choice). c.place)) in
              omega (arith, length-append (picked inputs x) numbers, picked_length inputs x, length-append (choices_of s) (choices_among statements))

          both_fit : (x : ℕ → Value) (numbers : List Number) → PicksFit x → InOrder (length before) (places (choices_among (s ∷ statements))) → NumbersFit (length (before ++ picked inputs x)) numbers → NumbersFit (length before) (picked inputs x ++ numbers)
          both_fit x numbers fit order rest =
              numbers_append (length before) (picked inputs x) numbers (picked_fit (length before) inputs x (own_order order) opens fit)
              (subst (λ m. NumbersFit m numbers) (length-append before (picked inputs x)) rest)

          joined : (e : Effect) (x : ℕ → Value) → GivesThen x e → PicksFit x → InOrder (length before) (places (choices_among (s ∷ statements))) → AllOpen statements
              → ((u : Value) → e ≡ effects.Gives u → Done statements (suc t) (before ++ picked inputs x) (holding_target H u) after)
              → Done (s ∷ statements) t before H after
          joined effects.Undefined x gives fit order inside goes =
              let numbers : List Number = zeros binding.typing (choices_among statements) in
              record {
                numbers = picked inputs x ++ numbers;
                count = both_count x numbers (length-map (choices_among statements) (zero_for binding.typing));
                fit = both_fit x numbers fit order (zeros_fit (length (before ++ picked inputs x)) (choices_among statements) (rest_order x order) inside);
                end = Undefines;
                follows = (effects.Undefined, gives numbers, refl);
                ends = tt;
              }
          joined (effects.Gives u) x gives fit order inside goes =
              let rest : Done statements (suc t) (before ++ picked inputs x) (holding_target H u) after = goes u refl in
              let whole : (before ++ picked inputs x) ++ rest.numbers ≡ before ++ (picked inputs x ++ rest.numbers) = append_assoc before (picked inputs x) rest.numbers in
              let further : suc t + length statements ≡ t + suc (length statements) = omega arith in
              record {
                numbers = picked inputs x ++ rest.numbers;
                count = both_count x rest.numbers rest.count;
                fit = both_fit x rest.numbers fit order rest.fit;
                end = rest.end;
                follows = (effects.Gives u, gives rest.numbers, subst (λ (choices : List Number). Follows binding.typing (given choices) holding_target statements (holding_target H u) rest.end) whole rest.follows);
                ends = subst (λ n. Ends n rest.end after) further rest.ends;
              }

          -- the statements behind it do what their instructions do
          abbrev Further : Name → Type 0
          Further name = (before' : List Number) (H' : Held) (new' : Registers) → InOrder (length before') (places (choices_among statements)) → Ready (suc t) H' new'
              → RunsThrough binding.block (binding.place + put_before rule binding (suc t)) (insts_put rule binding name statements) new' after → Done statements (suc t) before' H' after

          copied : (name : Name) (N : ℕ) → slice_get binding.typing s.class ≡ Some N → is_copy s.op ≡ true → InOrder (length before) (places (choices_among (s ∷ statements))) → AllOpen statements
              → RunsThrough binding.block (binding.place + put_before rule binding t) (insts_put rule binding name statements) new after → Further name → Done (s ∷ statements) t before H after
          copied name N width copies order inside runs further =
              let a = copied_of s.op copies in
              let step = copy_step N a.0 width a.1 in
              joined (effects.Gives step.0) no_values step.1 step.2 order inside (λ u is.
              let same : step.0 ≡ u = cc in
              further (before ++ picked inputs no_values) (holding_target H u) new (rest_order no_values order)
              (ready_next t s H new new u at ready (λ a x settled only. only) (subst (λ x. GivesOnly new x (result_at rule binding t s.op)) same step.3))
              (subst (λ n. RunsThrough binding.block (binding.place + n) (insts_put rule binding name statements) new after) (sym (count_same rule binding t s at copies)) runs))

          put_there : (f : Function) (name : Name) (N : ℕ) (inst : Inst) → slice_get binding.typing s.class ≡ Some N → IsNoCopy s.op → inst.width ≡ N → inst.op ≡ put_op rule binding N s.op → InOrder (length before) (places (choices_among (s ∷ statements)))
              → AllOpen statements
              → RunsThrough binding.block (binding.place + put_before rule binding t) (inst ∷ insts_put rule binding name statements) new after → Further name → Done (s ∷ statements) t before H after
          put_there f name N inst width kept inst_width inst_op order inside runs further =
              let k : ℕ = binding.place + put_before rule binding t in
              let e' : Effect = runs.0 in
              let gives : OpGives AnyNumber new N (put_op rule binding N s.op) e' = subst (λ w. OpGives AnyNumber new w (put_op rule binding N s.op) e') inst_width (subst (λ op. OpGives AnyNumber new inst.width op e') inst_op runs.1) in
              let step = put_step f N e' width kept (own_order order) gives in
              joined e' step.0 step.1 step.2 order inside (λ u is.
              let next : Registers = holding new binding.block k u in
              let on : RunsThrough binding.block (suc k) (insts_put rule binding name statements) next after = subst (λ d. RunsOn (λ x. RunsThrough binding.block (suc k) (insts_put rule binding name statements) (holding new binding.block k x) after) d after) is runs.2 in
              let place : suc k ≡ binding.place + put_before rule binding (suc t) = let more : put_before rule binding (suc t) ≡ suc (put_before rule binding t) = count_more rule binding t s at kept in omega arith in
              further (before ++ picked inputs step.0) (holding_target H u) next (rest_order step.0 order)
              (ready_next t s H new next u at ready (λ a x settled only. only_still (put_before rule binding t) k a new u x settled (omega arith) only)
              (subst (λ a. GivesOnly next u a) (sym (result_put_at rule binding t s.op kept)) (λ w x held. sym (same_Some u x (sym (held_here new binding.block k u binding.block k refl refl) ∙ held)))))
              (subst (λ n. RunsThrough binding.block n (insts_put rule binding name statements) next after) place on))

    -- ---- all of them

    open_later : (statements : List Statement) (t : ℕ) → ((i : ℕ) (s : Statement) → slice_get statements i ≡ Some s → slice_get rule.target (t + i) ≡ Some s) → AllOpen statements
    open_later statements t align choice among =
        let from = flat_map-from choices_of statements choice among in
        statement_open rule.target from.1 choice (Contains-from_get rule.target (t + from.0) from.1 (align from.0 from.1 from.2)) from.3

    -- the target's statements do what their instructions do, with these numbers and values
    pub target_runs : (f : Function) (name : Name) (statements : List Statement) (t : ℕ) (before : List Number) (H : Held) (new : Registers) (after : Option Registers)
        → ((i : ℕ) (s : Statement) → slice_get statements i ≡ Some s → slice_get rule.target (t + i) ≡ Some s) → InOrder (length before) (places (choices_among statements)) → Ready t H new
        → RunsThrough binding.block (binding.place + put_before rule binding t) (insts_put rule binding name statements) new after → Done statements t before H after
    target_runs f name [] t before H new after align order ready runs =
        record { numbers = []; count = refl; fit = λ q n at. absurd cc; end = Holds H; follows = refl; ends = (new, runs, subst (λ n. Ready n H new) (omega arith) ready) }
    target_runs f name (s ∷ statements) t before H new after align order ready runs =
        let at : slice_get rule.target t ≡ Some s = subst (λ n. slice_get rule.target n ≡ Some s) (omega arith) (align 0 s refl) in
        let align' : (i : ℕ) (x : Statement) → slice_get statements i ≡ Some x → slice_get rule.target (suc t + i) ≡ Some x = λ i x h. subst (λ n. slice_get rule.target n ≡ Some x) (omega arith) (align (suc i) x h) in
        let inside : AllOpen statements = open_later statements (suc t) align' in
        let w = width_of_class rule binding.typing s.class typed (class_stands rule s (target_statement rule t s at)) in
        let N : ℕ = class_width rule binding s.class in
        let width : slice_get binding.typing s.class ≡ Some N = w.1 ∙ ap (λ (n : ℕ). Some n) (sym (get_or_from_slice_get binding.typing s.class w.0 0 w.1)) in
        let parts = insts_apart rule binding name s statements in
        let k : ℕ = binding.place + put_before rule binding t in
        let all : RunsThrough binding.block k (insts_with rule binding parts.0 s ++ insts_put rule binding name statements) new after = subst (λ (l : List Inst). RunsThrough binding.block k l new after) parts.1 runs in
        let further : Further t s at before H new ready statements after name = λ before' H' new' order' ready' runs'. target_runs f name statements (suc t) before' H' new' after align' order' ready' runs' in
        elim (is_copy s.op) as (λ b. is_copy s.op ≡ b → Done (s ∷ statements) t before H after) [
          | true ↦ λ is. copied t s at before H new ready statements after name N width is order inside
              (subst (λ (l : List Inst). RunsThrough binding.block k (l ++ insts_put rule binding name statements) new after) (insts_none rule binding parts.0 N s.op is) all) further
          | false ↦ λ is. put_there t s at before H new ready statements after f name N (put_inst rule binding parts.0 N s.op) width is refl refl order inside
              (subst (λ (l : List Inst). RunsThrough binding.block k (l ++ insts_put rule binding name statements) new after) (insts_are rule binding parts.0 N s.op is) all) further
        ] refl
