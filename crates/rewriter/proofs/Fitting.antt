-- The instructions that a rule inserts in the place of its root fit the function.
use Rattle.rewriter.proofs.Common.{◌≡◌, ◌≢◌, ℕ, zero, suc, ◌+◌, ◌-◌, ◌<◌, ◌≤◌, ◌^◌, inl, inr, Bool, true, false, List, [], ◌∷◌, length, map, Option, Some, None, refl, sym, ap, subst, ◌∙◌, arith, get_or, slice_get, slice_index_or, Contains, if◌then◌else◌, option_map_or, cases_lt, same_Some, slice_get-map, slice_get-get_or, slice_get_within, get_or_from_slice_get, CastFits, residue, Number, IsValueOf, Flags, Cast, Value, IsAssigned, IsInst, IsPhi, IsTyped, MeetsChecks, OperandHasWidth, width_of, Read, reads_of, Function, Inst, Register, some_at, IsRule, TargetMayRead, FlagsFitOp, ReadsNoUndefAlone, operands_of, IsStatementOf, IsOperandAmong, name, reads, reads_constant, source_assigns, target_assigns, assigns_root, operand, copy, truth, truncated, zero_extended, sign_extended, constant_values, value_at, HasNumber, Argument, Rule, Statement, Term, residue_lt, Contains-from_get, Contains-flat_map, target_statement, target_operand, source_operand, class_stands, operand_class_stands, constant_values_fit, one_inst, NumbersFit, Fits, IsOfItsWidth, IsOld, MayBeRead, Rewrite, mapped, width_at, MatchesWhere, known_in, StatementMatches, Binding, literal_of, is_copy, argument_put, class_width, operand_put, insts_put, rewrite_of}
use Rattle.ops.specs.declared.conversion.Cast.TheVariants as casts
use Rattle.ops.specs.declared.value.Value.TheVariants as values
use Rattle.ir_core.specs.declared.operand.Operand.{Operand}
use Rattle.ir_core.specs.declared.operand.Operand.TheVariants as operands
use Rattle.ir_core.specs.declared.operand.Register.TheVariants as registers
use Rattle.rule_core.specs.Positions.{comparison}
use Rattle.rule_core.specs.declared.rule.Argument.TheVariants as arguments
use Rattle.rule_core.specs.declared.rule.Name.TheVariants as rule_names
use Rattle.rule_core.specs.declared.rule.Node.TheVariants as nodes
use Rattle.rule_core.specs.declared.rule.Op.{Op as RuleOp}
use Rattle.rule_core.specs.declared.rule.Op.TheVariants as rule_ops
use Rattle.rule_core.specs.declared.rule.Operand.{Operand as RuleOperand}
use Rattle.rule_core.specs.declared.rule.Register.TheVariants as names
use Rattle.rule_core.proofs.Ready.{class_width as width_of_class}
use Rattle.rewriter.proofs.Allowed.{reached, input_assigned, temporary_assigned, stands_itself}
use Rattle.rewriter.proofs.Matched.{computed_no_phi, same_is_computed}
use Rattle.rewriter.proofs.Putting.{IsNoCopy, results, results_length, put_before, result_at, result_put_at, result_is, count_more, count_grows, put_op, put_inst, ReadFor, put_reads, put_is_computed}
use Rattle.rewriter.proofs.Setting.{SourceRead, number_own, input_read, constants_fit}
use Rattle.rewriter.proofs.Source.{IsDefined}
use Rattle.rewriter.proofs.Placed.{PutFor, put_from, put_length, put_at, all_aligned}

-- ---- what the inserted instructions read

number_fits : (v : Value) (N : ℕ) → HasNumber v → IsValueOf N v → (n : Number) × (literal_of v ≡ operands.Number n) × (n.width ≡ N) × (n.number < 2 ^ n.width)
number_fits values.Poison N has fits = absurd has
number_fits (values.Bits n) N has fits = (n, refl, fits.0, subst (λ m. n.number < 2 ^ m) (sym fits.0) fits.1)

truth_fits : (b : Bool) (N : ℕ) → N ≡ 1 → (if b then 1 else 0) < 2 ^ N
truth_fits true N one = rw one (omega arith)
truth_fits false N one = rw one (omega arith)

module _ {Before : ℕ → ℕ → ℕ → ℕ → Type 0} (f : Function) (b k : ℕ) (rule : Rule) (binding : Binding) (checked : IsRule rule) (meets : MeetsChecks f) (numbers : NumbersFit f) (match : MatchesWhere Before (known_in f) f b k rule binding)
    (root : Inst) (root_is : IsInst f binding.block binding.place root) where
  abbrev put : Rewrite
  put = rewrite_of rule binding root.name

  -- a number of this width may be read, as a literal
  old_number : (width : ℕ) (n : Number) → n.width ≡ width → n.number < 2 ^ n.width → IsOld f put width (operands.Number n)
  old_number width n fits own = record { old = operands.Number n; stands = refl; fits = fits; number = own; assigned = λ r e. absurd cc }

  -- and so may a register that is assigned at the root
  old_register : (width : ℕ) (reg : Register) → width_of f reg ≡ Some width → IsAssigned f reg binding.block binding.place → IsOld f put width (operands.Register reg)
  old_register width reg has assigned =
      record {
        old = operands.Register reg;
        stands = sym (stands_itself f b k rule binding checked meets numbers match root root_is reg assigned);
        fits = has;
        number = tt;
        assigned = λ r e. let same : reg ≡ r = cc in subst (λ x. IsAssigned f x binding.block binding.place) same assigned;
      }

  old_operand : (width : ℕ) (a : Operand) → OperandHasWidth f width a → IsOfItsWidth a → ((reg : Register) → a ≡ operands.Register reg → IsAssigned f reg binding.block binding.place) → IsOld f put width a
  old_operand width (operands.Register reg) has own assigned = old_register width reg has (assigned reg refl)
  old_operand width (operands.Number n) has own assigned = old_number width n has own
  old_operand width operands.Undef has own assigned = record { old = operands.Undef; stands = refl; fits = tt; number = tt; assigned = λ r e. absurd cc }
  old_operand width operands.Poison has own assigned = record { old = operands.Poison; stands = refl; fits = tt; number = tt; assigned = λ r e. absurd cc }

  more_may : (i j width : ℕ) (a : Operand) → i ≤ j → MayBeRead f put i width a → MayBeRead f put j width a
  more_may i j width a le (inl old) = inl old
  more_may i j width a le (inr p) = inr (record { place = p.place; inst = p.inst; before = let lt : p.place < i = p.before in omega arith; is_put = p.is_put; fits = p.fits; stands = p.stands })

  -- the results of the first t statements may be read by those behind them
  abbrev FirstMay : ℕ → Type 0
  FirstMay t = (j : ℕ) (s : Statement) (width : ℕ) → j < t → slice_get rule.target j ≡ Some s → slice_get binding.typing s.class ≡ Some width → MayBeRead f put (put_before rule binding t) width (slice_index_or (results rule binding) j operands.Poison)

  -- an operand of target statement t
  module _ (t : ℕ) (s : Statement) (at : slice_get rule.target t ≡ Some s) (first : FirstMay t) (o : RuleOperand) (among : Contains (operands_of s.op) o) (width : ℕ) (class : slice_get binding.typing o.class ≡ Some width) where
    target_among : IsOperandAmong rule.target o
    target_among = Contains-flat_map (λ (s : Statement). operands_of s.op) rule.target s o (Contains-from_get rule.target t s at) among

    argument_may : (a : Argument) → o.value ≡ a → TargetMayRead rule t a → MayBeRead f put (put_before rule binding t) width (argument_put rule binding (results rule binding) width a)
    argument_may (arguments.Register (names.Input i)) is may =
        let a : Operand = slice_index_or binding.inputs i operands.Poison in
        let count : length binding.inputs ≡ length rule.inputs = match.input_count in
        let there : slice_get binding.inputs i ≡ Some a = slice_get-get_or binding.inputs i operands.Poison (omega arith) in
        let r = input_read f b k rule binding checked meets numbers match i a there in
        let x : SourceRead f binding r.0 = r.1 in
        let same = match.typing.same r.0.class o.class (name {n = rule_names.Register (names.Input i)} (reads (source_operand rule r.0 r.2) r.3) (reads (target_operand rule o target_among) is)) in
        let w_is : x.read.width ≡ width = same_Some x.read.width width (sym x.matches.width ∙ same ∙ class) in
        let has : OperandHasWidth f width a = subst (λ n. OperandHasWidth f n a) w_is (subst (λ y. OperandHasWidth f x.read.width y) r.4 (meets.formed.operands x.block x.place x.index x.read x.is_read)) in
        let own : IsOfItsWidth a = subst (λ y. IsOfItsWidth y) r.4 (number_own x.read.operand (λ n. numbers x.block x.place x.index x.read n x.is_read)) in
        inl (old_operand width a has own (λ reg e. input_assigned f b k rule binding checked meets numbers match root root_is i reg (there ∙ ap (λ (y : Operand). Some y) e)))
    argument_may (arguments.Register (names.Source j)) is may =
        let none : Register = registers.Parameter 0 in
        let reg : Register = get_or binding.statements j none in
        let count : length binding.statements ≡ length rule.source = match.statement_count in
        let there : slice_get binding.statements j ≡ Some reg = slice_get-get_or binding.statements j none (omega arith) in
        let x = some_at rule.source j (omega arith) in
        let m : StatementMatches f rule binding j x.0 = match.statements j x.0 x.1 in
        let same = match.typing.same x.0.class o.class (name {n = rule_names.Register (names.Source j)} (source_assigns x.1) (reads (target_operand rule o target_among) is)) in
        let w_is : m.inst.width ≡ width = same_Some m.inst.width width (sym m.matches.width ∙ same ∙ class) in
        let reg_is : registers.Result m.block m.place ≡ reg = same_Some (registers.Result m.block m.place) reg (sym m.bound ∙ there) in
        let has : width_of f reg ≡ Some width = subst (λ r. width_of f r ≡ Some width) reg_is (width_at f m.block m.place m.inst m.is_inst ∙ ap (λ n. Some n) w_is) in
        inl (subst (λ y. IsOld f put width (option_map_or operands.Register y operands.Poison)) (sym there) (old_register width reg has (temporary_assigned f b k rule binding checked meets numbers match root root_is j reg may there)))
    argument_may (arguments.Register (names.Target j)) is may =
        let within : t < length rule.target = slice_get_within rule.target t s at in
        let x = some_at rule.target j (omega arith) in
        let same = match.typing.same x.0.class o.class (name {n = rule_names.Register (names.Target j)} (target_assigns x.1) (reads (target_operand rule o target_among) is)) in
        first j x.0 width may x.1 (same ∙ class)
    argument_may (arguments.Literal z) is may = inl (old_number width (record { width = width; number = residue width z }) refl (residue_lt width z))
    argument_may (arguments.Truth b) is may =
        let one : width ≡ 1 = same_Some width 1 (sym class ∙ match.typing.fixed o.class 1 (truth (target_operand rule o target_among) is)) in
        inl (old_number width (record { width = width; number = (if b then 1 else 0) }) refl (truth_fits b width one))
    argument_may (arguments.Constant c) is may =
        let none : Number = record { width = 0; number = 0 } in
        let n : Number = get_or binding.constants c none in
        let count : length binding.constants ≡ length rule.constants = match.constant_count in
        let there : slice_get binding.constants c ≡ Some n = slice_get-get_or binding.constants c none (omega arith) in
        let fits : IsValueOf width (values.Bits n) = (constants_fit f b k rule binding checked meets numbers match).widths c o.class width n (reads_constant (target_operand rule o target_among) is) class there in
        inl (subst (λ x. IsOld f put width (option_map_or operands.Number x operands.Poison)) (sym there) (old_number width n fits.0 (subst (λ m. n.number < 2 ^ m) (sym fits.0) fits.1)))
    argument_may (arguments.Undef c) is may = inl (old_operand width operands.Undef tt tt (λ reg e. absurd cc))
    argument_may (arguments.Term n) is may =
        let none : Term = record { class = 0; node = nodes.Constant 0 } in
        let x : Term = get_or rule.terms n none in
        let there : slice_get rule.terms n ≡ Some x = slice_get-get_or rule.terms n none may in
        let fits = constant_values_fit rule binding.typing binding.constants checked match.typing (constants_fit f b k rule binding checked meets numbers match) in
        let all : List Value = constant_values binding.typing binding.constants rule in
        let count : length all ≡ length rule.terms = fits.0 in
        let v : Value = value_at all n in
        let here : slice_get all n ≡ Some v = slice_get-get_or all n values.Poison (omega arith) in
        let own : slice_get binding.typing x.class ≡ Some width = sym (match.typing.same o.class x.class (operand (target_operand rule o target_among) is there)) ∙ class in
        let number = number_fits v width (match.precondition.values n v here) (fits.1 n x v width there here own) in
        inl (subst (λ y. IsOld f put width y) (sym number.1) (old_number width number.0 number.2 number.3))

  own_class : (s : Statement) → IsStatementOf rule s → slice_get binding.typing s.class ≡ Some (class_width rule binding s.class)
  own_class s stands =
      let x = width_of_class rule binding.typing s.class match.typing (class_stands rule s stands) in
      x.1 ∙ ap (λ (n : ℕ). Some n) (sym (get_or_from_slice_get binding.typing s.class x.0 0 x.1))

  class_is : (o : RuleOperand) (width : ℕ) → slice_get binding.typing o.class ≡ Some width → class_width rule binding o.class ≡ width
  class_is o width class = get_or_from_slice_get binding.typing o.class width 0 class

  operand_may : (t : ℕ) (s : Statement) → slice_get rule.target t ≡ Some s → FirstMay t → (o : RuleOperand) → Contains (operands_of s.op) o → (width : ℕ) → slice_get binding.typing o.class ≡ Some width
      → MayBeRead f put (put_before rule binding t) width (operand_put rule binding (results rule binding) o)
  operand_may t s at first o among width class =
      subst (λ n. MayBeRead f put (put_before rule binding t) width (argument_put rule binding (results rule binding) n o.value)) (sym (class_is o width class))
      (argument_may t s at first o among width class o.value refl (checked.target_reads t s o at among))

  own_may : (t : ℕ) (s : Statement) (width : ℕ) → slice_get rule.target t ≡ Some s → slice_get binding.typing s.class ≡ Some width → (op : RuleOp) → s.op ≡ op → IsNoCopy op → MayBeRead f put (put_before rule binding (suc t)) width (result_at rule binding t op)
  own_may t s width at class op is kept =
      let own : IsNoCopy s.op = ap is_copy is ∙ kept in
      let r = put_at rule binding root.name rule.target 0 (all_aligned rule binding) t s at own in
      let more : put_before rule binding (suc t) ≡ suc (put_before rule binding t) = count_more rule binding t s at own in
      let none : put_before rule binding 0 ≡ 0 = refl in
      let whole : put_before rule binding (0 + t) ≡ put_before rule binding t = ap (put_before rule binding) (omega arith) in
      let place : r.1 ≡ put_before rule binding t = let e : put_before rule binding 0 + r.1 ≡ put_before rule binding (0 + t) = r.2 in omega arith in
      inr (record {
        place = put_before rule binding t;
        inst = put_inst rule binding r.0 (class_width rule binding s.class) s.op;
        before = omega arith;
        is_put = subst (λ n. slice_get (insts_put rule binding root.name rule.target) n ≡ Some (put_inst rule binding r.0 (class_width rule binding s.class) s.op)) place r.3;
        fits = get_or_from_slice_get binding.typing s.class width 0 class;
        stands = result_put_at rule binding t op kept;
      })

  -- the operand for the register of a target statement may be read by those behind it
  result_may : (t : ℕ) (s : Statement) (width : ℕ) → slice_get rule.target t ≡ Some s → FirstMay t → slice_get binding.typing s.class ≡ Some width → (op : RuleOp) → s.op ≡ op → MayBeRead f put (put_before rule binding (suc t)) width (result_at rule binding t op)
  result_may t s width at first class (rule_ops.Copy a) is =
      let own : slice_get binding.typing a.class ≡ Some width = sym (match.typing.same s.class a.class (copy (target_statement rule t s at) is)) ∙ class in
      let among : Contains (operands_of s.op) a = subst (λ (op : RuleOp). Contains (operands_of op) a) (sym is) (Contains-from_get (a ∷ []) 0 a refl) in
      more_may (put_before rule binding t) (put_before rule binding (suc t)) width (operand_put rule binding (results rule binding) a) (count_grows rule binding t s at) (operand_may t s at first a among width own)
  result_may t s width at first class (rule_ops.Binary opcode flags x y) is = own_may t s width at class (rule_ops.Binary opcode flags x y) is refl
  result_may t s width at first class (rule_ops.Compare pred samesign x y) is = own_may t s width at class (rule_ops.Compare pred samesign x y) is refl
  result_may t s width at first class (rule_ops.Unary op truth_value x) is = own_may t s width at class (rule_ops.Unary op truth_value x) is refl
  result_may t s width at first class (rule_ops.Select c x y) is = own_may t s width at class (rule_ops.Select c x y) is refl
  result_may t s width at first class (rule_ops.Convert cast flags x to) is = own_may t s width at class (rule_ops.Convert cast flags x to) is refl
  result_may t s width at first class (rule_ops.Freeze x j) is = own_may t s width at class (rule_ops.Freeze x j) is refl

  first_may : (t : ℕ) → t ≤ length rule.target → FirstMay t
  first_may zero le j s width lt at class = absurd (omega arith)
  first_may (suc t) le j s width lt at class =
      let before : FirstMay t = first_may t (omega arith) in
      elim (cases_lt j t) [
        | inl less ↦
            let x = some_at rule.target t (omega arith) in
            more_may (put_before rule binding t) (put_before rule binding (suc t)) width (slice_index_or (results rule binding) j operands.Poison) (count_grows rule binding t x.0 x.1) (before j s width less at class)
        | inr behind ↦
            let same : j ≡ t = omega arith in
            let here : slice_get rule.target t ≡ Some s = subst (λ n. slice_get rule.target n ≡ Some s) same at in
            let is : slice_index_or (results rule binding) t operands.Poison ≡ result_at rule binding t s.op = get_or_from_slice_get (results rule binding) t (result_at rule binding t s.op) operands.Poison (result_is rule binding checked.target_reads t s here) in
            subst (λ n. MayBeRead f put (put_before rule binding (suc t)) width (slice_index_or (results rule binding) n operands.Poison)) (sym same)
            (subst (λ a. MayBeRead f put (put_before rule binding (suc t)) width a) (sym is) (result_may t s width here before class s.op refl))
      ]

  -- ---- each inserted instruction

  cast_fits : (s : Statement) (cast : Cast) (flags : Flags) (a : RuleOperand) (to : Option ℕ) → IsStatementOf rule s → s.op ≡ rule_ops.Convert cast flags a to → (N M : ℕ) → slice_get binding.typing s.class ≡ Some N → slice_get binding.typing a.class ≡ Some M → CastFits cast M N
  cast_fits s casts.Trunc flags a to stands is N M class own = match.typing.smaller s.class a.class N M (truncated stands is) class own
  cast_fits s casts.ZExt flags a to stands is N M class own = match.typing.smaller a.class s.class M N (zero_extended stands is) own class
  cast_fits s casts.SExt flags a to stands is N M class own = match.typing.smaller a.class s.class M N (sign_extended stands is) own class

  put_typed : (t : ℕ) (s : Statement) → slice_get rule.target t ≡ Some s → (op : RuleOp) → s.op ≡ op → IsNoCopy op → IsTyped (class_width rule binding s.class) (put_op rule binding (class_width rule binding s.class) op)
  put_typed t s at (rule_ops.Binary opcode flags a c) is kept = subst FlagsFitOp is (checked.target_flags t s at)
  put_typed t s at (rule_ops.Unary op truth_value a) is kept = subst FlagsFitOp is (checked.target_flags t s at)
  put_typed t s at (rule_ops.Compare pred samesign a c) is kept =
      let stands : IsStatementOf rule s = target_statement rule t s at in
      same_Some (class_width rule binding s.class) 1 (sym (own_class s stands) ∙ match.typing.fixed s.class 1 (comparison stands is))
  put_typed t s at (rule_ops.Select c a d) is kept = tt
  put_typed t s at (rule_ops.Convert cast flags a to) is kept =
      let stands : IsStatementOf rule s = target_statement rule t s at in
      let x = width_of_class rule binding.typing a.class match.typing (operand_class_stands rule s a stands (subst (λ (op : RuleOp). Contains (operands_of op) a) (sym is) (Contains-from_get (a ∷ []) 0 a refl))) in
      let own : slice_get binding.typing a.class ≡ Some (class_width rule binding a.class) = x.1 ∙ ap (λ (n : ℕ). Some n) (sym (get_or_from_slice_get binding.typing a.class x.0 0 x.1)) in
      (subst FlagsFitOp is (checked.target_flags t s at), cast_fits s cast flags a to stands is (class_width rule binding s.class) (class_width rule binding a.class) (own_class s stands) own)
  put_typed t s at (rule_ops.Freeze a j) is kept = tt
  put_typed t s at (rule_ops.Copy a) is kept = absurd cc

  put_arity : (N : ℕ) (op : RuleOp) → IsNoCopy op → length (operands_of op) ≡ length (reads_of f binding.block binding.place N (put_op rule binding N op))
  put_arity N (rule_ops.Binary opcode flags a c) kept = refl
  put_arity N (rule_ops.Compare pred samesign a c) kept = refl
  put_arity N (rule_ops.Unary op truth_value a) kept = refl
  put_arity N (rule_ops.Select c a d) kept = refl
  put_arity N (rule_ops.Convert cast flags a to) kept = refl
  put_arity N (rule_ops.Freeze a j) kept = refl
  put_arity N (rule_ops.Copy a) kept = absurd cc

  put_is : (i : ℕ) (inst : Inst) → slice_get (insts_put rule binding root.name rule.target) i ≡ Some inst → PutFor rule binding root.name 0 i inst
  put_is i inst at = put_from rule binding root.name rule.target 0 (all_aligned rule binding) i inst at

  read_may : (i j : ℕ) (inst : Inst) (r : Read) → slice_get (insts_put rule binding root.name rule.target) i ≡ Some inst → slice_get (reads_of f binding.block binding.place inst.width inst.op) j ≡ Some r → MayBeRead f put i r.width r.operand
  read_may i j inst r at there =
      let p : PutFor rule binding root.name 0 i inst = put_is i inst at in
      let s : Statement = p.statement in
      let N : ℕ = class_width rule binding s.class in
      let all : slice_get (reads_of f binding.block binding.place N (put_op rule binding N s.op)) j ≡ Some r = subst (λ (x : Inst). slice_get (reads_of f binding.block binding.place x.width x.op) j ≡ Some r) p.is there in
      let inside : j < length (reads_of f binding.block binding.place N (put_op rule binding N s.op)) = slice_get_within (reads_of f binding.block binding.place N (put_op rule binding N s.op)) j r all in
      let o = some_at (operands_of s.op) j (omega (arith, put_arity N s.op p.kept)) in
      let own = put_reads rule binding match.typing f binding.block binding.place s N (target_statement rule p.place s p.is_statement) (own_class s (target_statement rule p.place s p.is_statement)) p.kept j o.0 o.1 in
      let same : own.0 ≡ r = same_Some own.0 r (sym own.1 ∙ all) in
      let for : ReadFor rule binding o.0 r = subst (λ x. ReadFor rule binding o.0 x) same own.2 in
      let within : p.place < length rule.target = slice_get_within rule.target p.place s p.is_statement in
      let may : MayBeRead f put (put_before rule binding p.place) r.width (operand_put rule binding (results rule binding) o.0) =
      operand_may p.place s p.is_statement (first_may p.place (omega arith)) o.0 (Contains-from_get (operands_of s.op) j o.0 o.1) r.width for.width in
      let count : put_before rule binding p.place ≡ i = let e : put_before rule binding p.place ≡ put_before rule binding 0 + i = p.count in let none : put_before rule binding 0 ≡ 0 = refl in omega arith in
      subst (λ n. MayBeRead f put n r.width r.operand) count (subst (λ a. MayBeRead f put (put_before rule binding p.place) r.width a) (sym for.operand) may)

  -- ---- the operand that replaces the root's register

  last_target : (s : Statement) × (slice_get rule.target (length rule.target - 1) ≡ Some s)
  last_target = some_at rule.target (length rule.target - 1) (let some = checked.target_root in omega arith)

  last_source : (s : Statement) × (slice_get rule.source (length rule.source - 1) ≡ Some s)
  last_source = some_at rule.source (length rule.source - 1) (let some = checked.source_root in omega arith)

  root_match : StatementMatches f rule binding (length rule.source - 1) last_source.0
  root_match = match.statements (length rule.source - 1) last_source.0 last_source.1

  root_inst : root_match.inst ≡ root
  root_inst =
      let (block, place) : (root_match.block ≡ binding.block) × (root_match.place ≡ binding.place) = root_match.matches.root (let some = checked.source_root in omega arith) in
      one_inst f binding.block binding.place root_match.inst root (subst (λ n. IsInst f binding.block n root_match.inst) place (subst (λ d. IsInst f d root_match.place root_match.inst) block root_match.is_inst)) root_is

  root_no_phi : ¬ IsPhi root.op
  root_no_phi = subst (λ (i : Inst). ¬ IsPhi i.op) root_inst (computed_no_phi root_match.inst.op (same_is_computed last_source.0.op root_match.inst.op root_match.matches.operation))

  root_class : slice_get binding.typing last_target.0.class ≡ Some root.width
  root_class =
      let j : ℕ = length rule.source - 1 in
      let t : ℕ = length rule.target - 1 in
      let last : suc j ≡ length rule.source = let some = checked.source_root in omega arith in
      let last_t : suc t ≡ length rule.target = let some = checked.target_root in omega arith in
      let same = match.typing.same last_source.0.class last_target.0.class (name {n = rule_names.Register (names.Source j)} (source_assigns last_source.1) (assigns_root last last_t last_target.1)) in
      sym same ∙ root_match.matches.width ∙ ap (λ (i : Inst). Some i.width) root_inst

  put_count : length (insts_put rule binding root.name rule.target) ≡ put_before rule binding (length rule.target)
  put_count =
      let e : put_before rule binding 0 + length (insts_put rule binding root.name rule.target) ≡ put_before rule binding (0 + length rule.target) = put_length rule binding root.name rule.target 0 (all_aligned rule binding) in
      let none : put_before rule binding 0 ≡ 0 = refl in
      let whole : put_before rule binding (0 + length rule.target) ≡ put_before rule binding (length rule.target) = ap (put_before rule binding) (omega arith) in
      omega arith

  result_of_root : MayBeRead f put (length (insts_put rule binding root.name rule.target)) root.width (slice_index_or (results rule binding) (length rule.target - 1) operands.Poison)
  result_of_root =
      subst (λ n. MayBeRead f put n root.width (slice_index_or (results rule binding) (length rule.target - 1) operands.Poison)) (sym put_count)
      (first_may (length rule.target) (omega arith) (length rule.target - 1) last_target.0 root.width (let some = checked.target_root in omega arith) last_target.1 root_class)

  -- ---- it is no `undef`

  abbrev FirstDefinite : ℕ → Type 0
  FirstDefinite t = (j : ℕ) (a : Operand) → j < t → slice_get (results rule binding) j ≡ Some a → a ≢ operands.Undef

  literal_definite : (v : Value) → literal_of v ≢ operands.Undef
  literal_definite values.Poison e = cc
  literal_definite (values.Bits n) e = cc

  argument_definite : (t N : ℕ) (a : Argument) → t ≤ length rule.target → FirstDefinite t → TargetMayRead rule t a → IsDefined a → argument_put rule binding (results rule binding) N a ≢ operands.Undef
  argument_definite t N (arguments.Register (names.Input i)) le first may defined e =
      let count : length binding.inputs ≡ length rule.inputs = match.input_count in
      let there : slice_get binding.inputs i ≡ Some (slice_index_or binding.inputs i operands.Poison) = slice_get-get_or binding.inputs i operands.Poison (omega arith) in
      match.no_undef (Contains-from_get binding.inputs i operands.Undef (there ∙ ap (λ (x : Operand). Some x) e))
  argument_definite t N (arguments.Register (names.Source j)) le first may defined e =
      elim (slice_get binding.statements j) as (λ o. option_map_or operands.Register o operands.Poison ≡ operands.Undef → ⊥) [ None ↦ λ e. cc | Some r ↦ λ e. cc ] e
  argument_definite t N (arguments.Register (names.Target j)) le first may defined e =
      first j (slice_index_or (results rule binding) j operands.Poison) may (slice_get-get_or (results rule binding) j operands.Poison (omega (arith, results_length rule binding))) e
  argument_definite t N (arguments.Literal z) le first may defined e = cc
  argument_definite t N (arguments.Truth b) le first may defined e = cc
  argument_definite t N (arguments.Constant c) le first may defined e =
      elim (slice_get binding.constants c) as (λ o. option_map_or operands.Number o operands.Poison ≡ operands.Undef → ⊥) [ None ↦ λ e. cc | Some r ↦ λ e. cc ] e
  argument_definite t N (arguments.Undef c) le first may defined e = defined c refl
  argument_definite t N (arguments.Term n) le first may defined e = literal_definite (value_at (constant_values binding.typing binding.constants rule) n) e

  result_definite : (t : ℕ) (s : Statement) → slice_get rule.target t ≡ Some s → FirstDefinite t → (op : RuleOp) → s.op ≡ op → result_at rule binding t op ≢ operands.Undef
  result_definite t s at first (rule_ops.Copy a) is e =
      let within : t < length rule.target = slice_get_within rule.target t s at in
      let among : Contains (operands_of s.op) a = subst (λ (op : RuleOp). Contains (operands_of op) a) (sym is) (Contains-from_get (a ∷ []) 0 a refl) in
      argument_definite t (class_width rule binding a.class) a.value (omega arith) first (checked.target_reads t s a at among) (subst ReadsNoUndefAlone is (checked.target_undefs t s at)) e
  result_definite t s at first (rule_ops.Binary opcode flags x y) is e = cc
  result_definite t s at first (rule_ops.Compare pred samesign x y) is e = cc
  result_definite t s at first (rule_ops.Unary op truth_value x) is e = cc
  result_definite t s at first (rule_ops.Select c x y) is e = cc
  result_definite t s at first (rule_ops.Convert cast flags x to) is e = cc
  result_definite t s at first (rule_ops.Freeze x j) is e = cc

  first_definite : (t : ℕ) → t ≤ length rule.target → FirstDefinite t
  first_definite zero le j a lt at e = omega arith
  first_definite (suc t) le j a lt at e =
      elim (cases_lt j t) [
        | inl less ↦ first_definite t (omega arith) j a less at e
        | inr behind ↦
            let same : j ≡ t = omega arith in
            let x = some_at rule.target t (omega arith) in
            let here : slice_get (results rule binding) t ≡ Some a = subst (λ n. slice_get (results rule binding) n ≡ Some a) same at in
            let is : result_at rule binding t x.0.op ≡ a = same_Some (result_at rule binding t x.0.op) a (sym (result_is rule binding checked.target_reads t x.0 x.1) ∙ here) in
            result_definite t x.0 x.1 (first_definite t (omega arith)) x.0.op refl (is ∙ e)
      ]

  root_definite : slice_index_or (results rule binding) (length rule.target - 1) operands.Poison ≢ operands.Undef
  root_definite =
      let some : 0 < length rule.target = checked.target_root in
      first_definite (length rule.target) (omega arith) (length rule.target - 1) (slice_index_or (results rule binding) (length rule.target - 1) operands.Poison) (omega arith)
      (slice_get-get_or (results rule binding) (length rule.target - 1) operands.Poison (omega (arith, results_length rule binding)))

  -- ---- names

  -- an inserted instruction that has a name is the last one, and has the root's
  named_last : (i : ℕ) (inst : Inst) (own : List ℕ) → slice_get (insts_put rule binding root.name rule.target) i ≡ Some inst → inst.name ≡ Some own → (root.name ≡ Some own) × (i ≡ put_before rule binding (length rule.target - 1))
  named_last i inst own at is =
      let p : PutFor rule binding root.name 0 i inst = put_is i inst at in
      let named : p.name ≡ Some own = ap (λ (x : Inst). x.name) (sym p.is) ∙ is in
      let count : put_before rule binding p.place ≡ put_before rule binding 0 + i = p.count in
      let none : put_before rule binding 0 ≡ 0 = refl in
      elim p.named [
        | inl unnamed ↦ absurd cc
        | inr last ↦
            let end : suc p.place ≡ length rule.target = last.1 in
            let same : put_before rule binding p.place ≡ put_before rule binding (length rule.target - 1) = ap (put_before rule binding) (omega arith) in
            (sym last.0 ∙ named, omega arith)
      ]

  name_at : (i : ℕ) (own : List ℕ) → slice_get (map (λ (x : Inst). x.name) (insts_put rule binding root.name rule.target)) i ≡ Some (Some own) → i ≡ put_before rule binding (length rule.target - 1)
  name_at i own at =
      let x = mapped (λ (x : Inst). x.name) (slice_get (insts_put rule binding root.name rule.target) i) (Some own) (sym (slice_get-map (λ (x : Inst). x.name) (insts_put rule binding root.name rule.target) i) ∙ at) in
      (named_last i x.0 own x.1 x.2).1

  pub rewrite_fits : Fits f put root
  rewrite_fits =
      record {
        is_root = root_is;
        reached = reached f b k rule binding checked meets numbers match root root_is;
        no_phi = root_no_phi;
        no_phis_put = λ i inst at.
            let p : PutFor rule binding root.name 0 i inst = put_is i inst at in
            subst (λ (x : Inst). ¬ IsPhi x.op) (sym p.is) (computed_no_phi (put_op rule binding (class_width rule binding p.statement.class) p.statement.op) (put_is_computed rule binding (class_width rule binding p.statement.class) p.statement.op p.kept));
        typed = λ i inst at.
            let p : PutFor rule binding root.name 0 i inst = put_is i inst at in
            subst (λ (x : Inst). IsTyped x.width x.op) (sym p.is) (put_typed p.place p.statement p.is_statement p.statement.op refl p.kept);
        named_once = λ i j own at_i at_j. name_at i own at_i ∙ sym (name_at j own at_j);
        names = λ i inst own at is. (named_last i inst own at is).0;
        reads = λ i j inst r at there. read_may i j inst r at there;
        result = result_of_root;
        definite = root_definite;
      }
