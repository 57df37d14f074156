-- What a rule that matches says of bits holds in the run of its source on what registers hold where the function comes
-- to the root. An instruction may have more flags than its statement, so that a temporary's register holds poison where
-- the rule's holds a number; but what is known of a result's bits is so whatever the flags are.
use Rattle.rewriter.proofs.Common.{◌≡◌, ◌≢◌, ℕ, suc, ◌+◌, ◌-◌, ◌<◌, ◌≤◌, ◌^◌, inl, inr, Bool, not, List, [], ◌∷◌, ◌++◌, length, map, take, length-take, length-append, Option, None, Some, refl, sym, ap, subst, ◌∙◌, arith, bit_and, slice_get, if◌then◌else◌, unwrap_or, option_map, Contains, IsTrue, eq-eqb, ne_eqb, cases_eq, cases_lt, same_Some, slice_get-map, slice_get_within, residue, bits, Number, IsValueOf, CastFits, conversion, selection, Value, MeetsChecks, IsInst, IsPhi, IsTyped, OperandHasWidth, Read, IsRead, read, reads_of, Registers, Function, Inst, some_at, EquationHolds, NumbersFit, HoldWidths, width_known, held_has, result_before, known_earlier, masked_number, non_zero_number, binary_has, cast_has, choice_has, has_nothing, has_certain, operand_width, any_width, KnownBit, unknown, known_at, known_result, known_results, known_of, insts_of, HasBits, Known, IsRule, SourceMayRead, operands_of, truth, source_operand, Held, Given, Holds, given_by, at_start, holding_source, TemporariesEnd, Follows, StatementGives, ArgumentGives, HeldFits, constant_values, number_or_zero, fact_holds, facts_hold, each_said, Argument, Formula, Rule, Statement, Contains-flat_map, Contains-from_get, get_taken, one_inst, inst_reads, get_left, get_right, IsOfItsWidth, IsSameOperation, StandsFor, OperandMatches, InstMatches, StatementMatches, MatchesWhere, known_in, FactFollows, number_of_term, operand_for, asked_before_root, Binding}
use Rattle.ops.specs.Counts.{binary_digits}
use Rattle.ops.specs.declared.value.Value.TheVariants as values
use Rattle.ops.specs.declared.value.Effect.TheVariants as effects
use Rattle.ir_core.specs.declared.instruction.Op.{Op}
use Rattle.ir_core.specs.declared.instruction.Op.TheVariants as ops
use Rattle.ir_core.specs.declared.operand.Operand.{Operand}
use Rattle.ir_core.specs.declared.operand.Operand.TheVariants as operands
use Rattle.ir_core.specs.declared.operand.Register.TheVariants as registers
use Rattle.rule_core.specs.Checks.{IsBeforeRoot}
use Rattle.rule_core.specs.Facts.{has_no_bit_of, is_not_zero}
use Rattle.rule_core.specs.Run.{OperandGives as RuleOperandGives, OpGives as RuleOpGives, value_of as held_value}
use Rattle.rule_core.specs.declared.rule.Argument.TheVariants as arguments
use Rattle.rule_core.specs.declared.rule.Formula.TheVariants as formulas
use Rattle.rule_core.specs.declared.rule.Op.{Op as RuleOp}
use Rattle.rule_core.specs.declared.rule.Op.TheVariants as rule_ops
use Rattle.rule_core.specs.declared.rule.Operand.{Operand as RuleOperand}
use Rattle.rule_core.specs.declared.rule.Register.{Register as Name}
use Rattle.rule_core.specs.declared.rule.Register.TheVariants as names
use Rattle.rewriter.proofs.Setting.{input_fits, input_read, number_own}
use Rattle.rewriter.proofs.Source.{IsDefined, input_value, input_values}

-- what is held stays held while further temporaries are
still_held : (typing : List ℕ) (given : Given) (rest : List Statement) (H end : Held) → Follows typing given holding_source rest H (Holds end) → (i : ℕ) (v : Value) → slice_get H.source i ≡ Some v → slice_get end.source i ≡ Some v
still_held typing given [] H end follows i v at = let same : H ≡ end = cc in subst (λ (h : Held). slice_get h.source i ≡ Some v) same at
still_held typing given (s ∷ rest) H end (effects.Undefined, gives, goes) i v at = absurd cc
still_held typing given (s ∷ rest) H end (effects.Gives u, gives, goes) i v at = still_held typing given rest (holding_source H u) end goes i v (get_left H.source (u ∷ []) i v at)

module _ {Before : ℕ → ℕ → ℕ → ℕ → Type 0} (f : Function) (b k : ℕ) (rule : Rule) (binding : Binding) (checked : IsRule rule) (meets : MeetsChecks f) (numbers : NumbersFit f) (match : MatchesWhere Before (known_in f) f b k rule binding)
    (before_root : (j p : ℕ) → suc j < length rule.source → slice_get binding.statements j ≡ Some (registers.Result binding.block p) → p < binding.place)
    (held : Registers) (widths : HoldWidths f held)
    (equations : (p : ℕ) (inst : Inst) → p < binding.place → IsInst f binding.block p inst → ¬ IsPhi inst.op → EquationHolds held binding.block p inst) where
  abbrev typing : List ℕ
  typing = binding.typing

  abbrev given : Given
  given = given_by typing binding.constants [] rule

  -- what is known at an instruction of the root's block
  abbrev at_place : ℕ → ℕ → Operand → List KnownBit
  at_place p = known_at f binding.block p

  -- a value of width N with the bits that are known of an operand there
  abbrev Has : ℕ → ℕ → Operand → Value → Type 0
  Has p N x v = IsValueOf N v × HasBits (at_place p N x) v

  -- an operand that is a number gives it
  abbrev IsLiteral : Operand → Value → Type 0
  IsLiteral x v = (n : Number) → x ≡ operands.Number n → v ≡ values.Bits n

  -- ---- operands

  input_has : (p N : ℕ) (x : Operand) → p ≤ binding.place → x ≢ operands.Undef → OperandHasWidth f N x → IsOfItsWidth x → Has p N x (input_value held x)
  input_has p N (operands.Register r) few defined has own =
      (input_fits f held N (operands.Register r) widths has own, by (held r) refl)
    where
      by : (o : Option Value) → held r ≡ o → HasBits (at_place p N (operands.Register r)) (unwrap_or (held r) values.Poison)
      by None is = rw is tt
      by (Some v) is = rw is (held_has f meets.formed numbers held widths binding.block binding.place equations p few N (operands.Register r) v has is)
  input_has p N (operands.Number n) few defined has own = (input_fits f held N (operands.Number n) widths has own, has_certain (binary_digits n.width n.number))
  input_has p N operands.Undef few defined has own = absurd (defined refl)
  input_has p N operands.Poison few defined has own = (tt, tt)

  literal_has : (p N : ℕ) (x : Operand) (n : Number) (u : Value) → x ≡ operands.Number n → u ≡ values.Bits n → OperandHasWidth f N x → IsOfItsWidth x → Has p N x u × IsLiteral x u
  literal_has p N x n u x_is u_is has own =
      let width : n.width ≡ N = subst (OperandHasWidth f N) x_is has in
      let below : n.number < 2 ^ n.width = subst IsOfItsWidth x_is own in
      let number : Has p N (operands.Number n) (values.Bits n) = ((width, subst (λ w. n.number < 2 ^ w) width below), has_certain (binary_digits n.width n.number)) in (
        subst (λ y. Has p N y u) (sym x_is) (subst (Has p N (operands.Number n)) (sym u_is) number),
        λ m is. let same : operands.Number n ≡ operands.Number m = sym x_is ∙ is in let one : n ≡ m = cc in u_is ∙ ap values.Bits one,
      )

  -- The result of the instruction that a temporary is bound to. Something is known of its bits in the root's block
  -- alone.
  abbrev ResultHas : ℕ → ℕ → Inst → Value → Type 0
  ResultHas d p inst v = IsValueOf inst.width v × (d ≡ binding.block → HasBits (known_result (at_place p) inst.width inst.op) v)

  unknown_elsewhere : (p d q N : ℕ) → ¬ (d ≡ binding.block) → at_place p N (operands.Register (registers.Result d q)) ≡ unknown N
  unknown_elsewhere p d q N other = rw (ne_eqb d binding.block other) refl

  result_has : (p d q N : ℕ) (inst : Inst) (v : Value) → IsInst f d q inst → ResultHas d q inst v → OperandHasWidth f N (operands.Register (registers.Result d q)) → Has p N (operands.Register (registers.Result d q)) v
  result_has p d q N inst v is have has = (value, elim (cases_eq d binding.block) [ inl same ↦ in_block same | inr other ↦ subst (λ bits. HasBits bits v) (sym (unknown_elsewhere p d q N other)) (has_nothing N v value) ])
    where
      width : inst.width ≡ N
      width = same_Some inst.width N (sym (width_known f d q is.block inst is.is_block is.is_inst) ∙ has)

      value : IsValueOf N v
      value = subst (λ w. IsValueOf w v) width have.0

      in_block : d ≡ binding.block → HasBits (at_place p N (operands.Register (registers.Result d q))) v
      in_block same =
          let there : IsInst f binding.block q inst = subst (λ c. IsInst f c q inst) same is in
          subst (λ c. HasBits (at_place p N (operands.Register (registers.Result c q))) v) (sym same)
          (known_earlier (λ bits. HasBits bits v) f binding.block p (suc (p + q)) N (operands.Register (registers.Result binding.block q)) (omega arith) (has_nothing N v value)
          (subst (λ bits. HasBits bits v) (sym (result_before f binding.block q (suc (p + q)) N inst there (omega arith))) (have.1 same)))

  -- the first j temporaries hold what has the bits that are known of their instructions
  record AllHave (j : ℕ) (H : Held) : Type 0 where
    inputs : H.inputs ≡ input_values held binding
    count : length H.source ≡ j
    each : (i d q : ℕ) (inst : Inst) (v : Value) → i < j → slice_get H.source i ≡ Some v → slice_get binding.statements i ≡ Some (registers.Result d q) → IsInst f d q inst → ResultHas d q inst v

  module _ (j : ℕ) (H : Held) (all : AllHave j H) where
    input_held : (i : ℕ) (x : Operand) (u : Value) → slice_get binding.inputs i ≡ Some x → slice_get H.inputs i ≡ Some u → u ≡ input_value held x
    input_held i x u at gives =
        let here : slice_get (input_values held binding) i ≡ Some (input_value held x) = slice_get-map (input_value held) binding.inputs i ∙ ap (option_map (input_value held)) at in
        same_Some u (input_value held x) (sym gives ∙ ap (λ (vs : List Value). slice_get vs i) all.inputs ∙ here)

    argument_has : (p N : ℕ) (a : Argument) (x : Operand) (u : Value) → p ≤ binding.place → StandsFor binding N a x → SourceMayRead rule j a → IsDefined a → ((t : Bool) → a ≡ arguments.Truth t → N ≡ 1)
        → OperandHasWidth f N x → IsOfItsWidth x → ArgumentGives typing given H N a u → Has p N x u × IsLiteral x u
    argument_has p N (arguments.Register (names.Input i)) x u few for may defined one has own gives =
        let other : x ≢ operands.Undef = λ is. match.no_undef (Contains-from_get binding.inputs i operands.Undef (for ∙ ap (λ y. Some y) is)) in
        let is : u ≡ input_value held x = input_held i x u for gives in (
          subst (Has p N x) (sym is) (input_has p N x few other has own),
          λ n number. is ∙ ap (input_value held) number,
        )
    argument_has p N (arguments.Register (names.Source i)) x u few (reg, at, is) may defined one has own gives =
        let (s, is_statement) = some_at rule.source i (let within : i < length binding.statements = slice_get_within binding.statements i reg at in omega (arith, within, match.statement_count)) in
        let m : StatementMatches f rule binding i s = match.statements i s is_statement in
        let there : x ≡ operands.Register (registers.Result m.block m.place) = is ∙ ap operands.Register (same_Some reg (registers.Result m.block m.place) (sym at ∙ m.bound)) in
        let have : ResultHas m.block m.place m.inst u = all.each i m.block m.place m.inst u may gives m.bound m.is_inst in (
          subst (λ y. Has p N y u) (sym there) (result_has p m.block m.place N m.inst u m.is_inst have (subst (OperandHasWidth f N) there has)),
          λ n number. let same : operands.Register (registers.Result m.block m.place) ≡ operands.Number n = sym there ∙ number in absurd cc,
        )
    argument_has p N (arguments.Register (names.Target i)) x u few for may defined one has own gives = absurd for
    argument_has p N (arguments.Literal z) x u few for may defined one has own gives = literal_has p N x (record { width = N; number = residue N z }) u for gives has own
    argument_has p N (arguments.Truth t) x u few for may defined one has own gives =
        literal_has p N x (record { width = 1; number = (if t then 1 else 0) }) u for (gives ∙ ap (λ M. bits M (if t then 1 else 0)) (one t refl)) has own
    argument_has p N (arguments.Constant c) x u few (n, at, fits, is) may defined one has own (n', at', is') =
        let same : n' ≡ n = same_Some n' n (sym at' ∙ at) in
        literal_has p N x n u is (is' ∙ ap values.Bits same) has own
    argument_has p N (arguments.Undef i) x u few for may defined one has own gives = absurd (defined i refl)
    argument_has p N (arguments.Term n) x u few for may defined one has own gives = absurd for

  -- ---- a statement

  -- what is known of the operands of an instruction, and what those of the statement give
  record OperandHas (p : ℕ) (r : Read) (u : Value) : Type 0 where
    width : length (at_place p r.width r.operand) ≡ r.width
    has : Has p r.width r.operand u
    literal : IsLiteral r.operand u

  module _ (H : Held) (p w : ℕ) (v : Value) (is : IsValueOf w v) where
    abbrev OperandsHave : RuleOp → Op → Type 0
    OperandsHave s i = (n : ℕ) (o : RuleOperand) (r : Read) (u : Value) → slice_get (operands_of s) n ≡ Some o → slice_get (reads_of f binding.block p w i) n ≡ Some r
        → RuleOperandGives typing given H o u → (slice_get typing o.class ≡ Some r.width) × OperandHas p r u

    by_op : (s : RuleOp) (i : Op) → IsSameOperation s i → IsTyped w i → OperandsHave s i → RuleOpGives typing given H w s (effects.Gives v) → HasBits (known_result (at_place p) w i) v
    by_op (rule_ops.Binary op flags a c) (ops.Binary op' flags' x y) same typed each (xv, yv, gives_x, gives_y, e) =
        let at_x = (each 0 a (read binding.block p w x) xv refl refl gives_x).1 in
        let at_y = (each 1 c (read binding.block p w y) yv refl refl gives_y).1 in
        subst (λ o. HasBits (known_result (at_place p) w (ops.Binary o flags' x y)) v) same
        (binary_has (at_place p) w flags flags' x y at_x.width at_y.width xv yv v at_x.has at_y.has at_y.literal op is e)
    by_op (rule_ops.Select c a d) (ops.Select z x y) same typed each (zv, xv, yv, gives_z, gives_x, gives_y, e) =
        let at_x = (each 1 a (read binding.block p w x) xv refl refl gives_x).1 in
        let at_y = (each 2 d (read binding.block p w y) yv refl refl gives_y).1 in
        let chosen : selection zv xv yv ≡ v = cc in
        subst (HasBits (known_result (at_place p) w (ops.Select z x y))) chosen
        (choice_has (at_place p w x) (at_place p w y) zv xv yv (at_y.width ∙ sym at_x.width) at_x.has.1 at_y.has.1)
    by_op (rule_ops.Convert cast flags a to) (ops.Convert cast' flags' M x) same typed each (M', xv, width, gives_x, e) =
        let operand = each 0 a (read binding.block p M x) xv refl refl gives_x in
        let at_x = operand.1 in
        let one : M' ≡ M = same_Some M' M (sym width ∙ operand.0) in
        let cut : conversion cast flags M' w xv ≡ v = cc in
        let made : conversion cast flags M w xv ≡ v = ap (λ N. conversion cast flags N w xv) (sym one) ∙ cut in
        let fits : CastFits cast M w = subst (λ c. CastFits c M w) (sym same) typed.1 in
        subst (λ c. HasBits (known_result (at_place p) w (ops.Convert c flags' M x)) v) same
        (subst (HasBits (known_result (at_place p) w (ops.Convert cast flags' M x))) made
        (cast_has (at_place p M x) M w cast flags flags' (at_place p) x xv refl at_x.width fits at_x.has))
    by_op (rule_ops.Compare pred samesign a c) (ops.Compare pred' samesign' M x y) same typed each gives = has_nothing w v is
    by_op (rule_ops.Unary op truth_value a) (ops.Unary op' truth' x) same typed each gives = has_nothing w v is
    by_op (rule_ops.Freeze a n) (ops.Freeze x) same typed each gives = has_nothing w v is
    by_op s i same typed each gives = absurd same

  statement_has : (j : ℕ) (s : Statement) (H : Held) (v : Value) → slice_get rule.source j ≡ Some s → suc j < length rule.source → AllHave j H → (p : ℕ) (inst : Inst) → slice_get binding.statements j ≡ Some (registers.Result binding.block p) → IsInst f binding.block p inst → InstMatches f rule binding j s binding.block p inst
      → StatementGives typing given H s (effects.Gives v) → IsValueOf inst.width v → HasBits (known_result (at_place p) inst.width inst.op) v
  statement_has j s H v at before all p inst bound is_inst matches (N, class, gives) is =
      let width : N ≡ inst.width = same_Some N inst.width (sym class ∙ matches.width) in
      let stands_before : p < binding.place = before_root j p before bound in
      by_op H p inst.width v is s.op inst.op matches.operation (meets.formed.insts binding.block p inst is_inst)
      (λ n o r u at_n at_read gives_o. each n o r u at_n at_read gives_o (omega (arith, stands_before)))
      (subst (λ M. RuleOpGives typing given H M s.op (effects.Gives v)) width gives)
    where
      each : (n : ℕ) (o : RuleOperand) (r : Read) (u : Value) → slice_get (operands_of s.op) n ≡ Some o → slice_get (reads_of f binding.block p inst.width inst.op) n ≡ Some r
          → RuleOperandGives typing given H o u → p ≤ binding.place → (slice_get typing o.class ≡ Some r.width) × OperandHas p r u
      each n o r u at_n at_read (M, class_o, gives_o) few =
          let is_read : IsRead f binding.block p n r = ap (λ (l : List Read). slice_get l n) (inst_reads f binding.block p inst is_inst) ∙ at_read in
          let matched : OperandMatches binding o r = matches.operands n o r at_n is_read in
          let has : OperandHasWidth f r.width r.operand = meets.formed.operands binding.block p n r is_read in
          let own : IsOfItsWidth r.operand = number_own r.operand (λ c. numbers binding.block p n r c is_read) in
          let among : Contains (operands_of s.op) o = Contains-from_get (operands_of s.op) n o at_n in
          let may : SourceMayRead rule j o.value = checked.source_reads j s o at among in
          let defined : IsDefined o.value = λ c is_undef. let root : suc j ≡ length rule.source = subst (SourceMayRead rule j) is_undef may in absurd (omega arith) in
          let one : (t : Bool) → o.value ≡ arguments.Truth t → r.width ≡ 1 = λ t is_truth.
          same_Some r.width 1 (sym matched.width ∙ match.typing.fixed o.class 1 (truth (source_operand rule o (Contains-flat_map (λ (t : Statement). operands_of t.op) rule.source s o (Contains-from_get rule.source j s at) among)) is_truth)) in
          let same : M ≡ r.width = same_Some M r.width (sym class_o ∙ matched.width) in
          let found = argument_has j H all p r.width o.value r.operand u few matched.value may defined one has own (subst (λ N. ArgumentGives typing given H N o.value u) same gives_o) in
          (matched.width, record { width = operand_width f meets.formed binding.block p r.width r.operand has; has = found.0; literal = found.1 })

  -- ---- the temporaries, and what is said of registers

  module _ (H : Held) (fits : HeldFits rule typing H) where
    value_fits : (j : ℕ) (s : Statement) (v : Value) → slice_get rule.source j ≡ Some s → (m : StatementMatches f rule binding j s) → slice_get H.source j ≡ Some v → IsValueOf m.inst.width v
    value_fits j s v at m is = fits.source j s v m.inst.width at is m.matches.width

    temporaries_have : (rest : List Statement) (j : ℕ) (G : Held) → ((i : ℕ) (s : Statement) → slice_get rest i ≡ Some s → (slice_get rule.source (j + i) ≡ Some s) × (suc (j + i) < length rule.source))
        → AllHave j G → Follows typing given holding_source rest G (Holds H) → AllHave (j + length rest) H
    temporaries_have [] j G align all follows = let same : G ≡ H = cc in let none : j ≡ j + 0 = omega arith in subst (λ n. AllHave n H) none (subst (AllHave j) same all)
    temporaries_have (s ∷ rest) j G align all (effects.Undefined, gives, goes) = absurd cc
    temporaries_have (s ∷ rest) j G align all (effects.Gives v, gives, goes) =
        let first = align 0 s refl in
        let none : j + 0 ≡ j = omega arith in
        let at : slice_get rule.source j ≡ Some s = subst (λ n. slice_get rule.source n ≡ Some s) none first.0 in
        let before : suc j < length rule.source = subst (λ n. suc n < length rule.source) none first.1 in
        let m : StatementMatches f rule binding j s = match.statements j s at in
        let here : slice_get (G.source ++ v ∷ []) j ≡ Some v = get_right G.source (v ∷ []) 0 j v refl (omega (arith, all.count)) in
        let value : IsValueOf m.inst.width v = value_fits j s v at m (still_held typing given rest (holding_source G v) H goes j v here) in
        let have : ResultHas m.block m.place m.inst v = (
          value,
          λ same. statement_has j s G v at before all m.place m.inst (subst (λ d. slice_get binding.statements j ≡ Some (registers.Result d m.place)) same m.bound)
              (subst (λ d. IsInst f d m.place m.inst) same m.is_inst) (subst (λ d. InstMatches f rule binding j s d m.place m.inst) same m.matches) gives value,
        ) in
        let steps : suc j + length rest ≡ j + suc (length rest) = omega arith in
        let align' : (i : ℕ) (t : Statement) → slice_get rest i ≡ Some t → (slice_get rule.source (suc j + i) ≡ Some t) × (suc (suc j + i) < length rule.source) = λ i t h.
        let next : j + suc i ≡ suc j + i = omega arith in
        subst (λ n. (slice_get rule.source n ≡ Some t) × (suc n < length rule.source)) next (align (suc i) t h) in
        subst (λ n. AllHave n H) steps (temporaries_have rest (suc j) (holding_source G v) align' (one_more j G v m have all) goes)
      where
        one_more : (j : ℕ) (G : Held) (v : Value) {s : Statement} (m : StatementMatches f rule binding j s) → ResultHas m.block m.place m.inst v → AllHave j G → AllHave (suc j) (holding_source G v)
        one_more j G v m have all = record {
          inputs = all.inputs;
          count = length-append G.source (v ∷ []) ∙ (let count : length G.source ≡ j = all.count in omega arith);
          each = λ i d q inst u less at bound is. elim (cases_lt i j) [
            | inl earlier ↦
                let (x, at_x) = some_at G.source i (let count : length G.source ≡ j = all.count in omega arith) in
                let same : x ≡ u = same_Some x u (sym (get_left G.source (v ∷ []) i x at_x) ∙ at) in
                all.each i d q inst u earlier (subst (λ y. slice_get G.source i ≡ Some y) same at_x) bound is
            | inr later ↦
                let same : i ≡ j = omega arith in
                let place : registers.Result m.block m.place ≡ registers.Result d q =
                same_Some (registers.Result m.block m.place) (registers.Result d q) (sym m.bound ∙ subst (λ n. slice_get binding.statements n ≡ Some (registers.Result d q)) same bound) in
                let block : m.block ≡ d = cc in
                let there : m.place ≡ q = cc in
                let one : m.inst ≡ inst = one_inst f d q m.inst inst (subst (λ n. IsInst f d n m.inst) there (subst (λ c. IsInst f c m.place m.inst) block m.is_inst)) is in
                let value : v ≡ u = same_Some v u (sym (get_right G.source (v ∷ []) 0 i v refl (let count : length G.source ≡ j = all.count in omega arith)) ∙ at) in
                subst (ResultHas d q inst) value (subst (λ x. ResultHas d q x v) one (subst (λ n. ResultHas d n m.inst v) there (subst (λ c. ResultHas c m.place m.inst v) block have)))
          ];
        }

    module _ (ends : TemporariesEnd typing binding.constants rule (input_values held binding) (Holds H)) where
      all_have : AllHave (length rule.source - 1) H
      all_have =
          let n : ℕ = length rule.source - 1 in
          let count : 0 + length (take n rule.source) ≡ n = omega (arith, length-take n rule.source) in
          subst (λ m. AllHave m H) count (temporaries_have (take n rule.source) 0 (at_start (input_values held binding))
          (λ i s h. let whole = get_taken rule.source n i s h in let lt : i < n = whole.1 in (subst (λ p. slice_get rule.source p ≡ Some s) (omega arith) whole.0, omega arith))
          (record { inputs = refl; count = refl; each = λ i d q inst v less. absurd (omega arith) }) ends)

      -- what a register holds has the bits that are known at the root of what the binding gives for it
      record NameHas (r : Name) : Type 0 where
        N : ℕ
        x : Operand
        v : Value
        bound : operand_for binding r ≡ Some x
        holds : held_value H r ≡ Some v
        has : Has binding.place N x v

      name_has : (r : Name) → IsBeforeRoot rule r → NameHas r
      name_has (names.Input i) before =
          let (x, at) = some_at binding.inputs i (omega (arith, before, match.input_count)) in
          let (o, s, among, reads, is) = input_read f b k rule binding checked meets numbers match i x at in
          let has : OperandHasWidth f s.read.width x = subst (OperandHasWidth f s.read.width) is (meets.formed.operands s.block s.place s.index s.read s.is_read) in
          let own : IsOfItsWidth x = subst IsOfItsWidth is (number_own s.read.operand (λ n. numbers s.block s.place s.index s.read n s.is_read)) in
          let other : x ≢ operands.Undef = λ is_undef. match.no_undef (Contains-from_get binding.inputs i operands.Undef (at ∙ ap (λ y. Some y) is_undef)) in
          record {
            N = s.read.width;
            x = x;
            v = input_value held x;
            bound = at;
            holds = ap (λ (vs : List Value). slice_get vs i) all_have.inputs ∙ slice_get-map (input_value held) binding.inputs i ∙ ap (option_map (input_value held)) at;
            has = input_has binding.place s.read.width x (omega arith) other has own;
          }
      name_has (names.Source j) before =
          let (s, at) = some_at rule.source j (omega (arith, before)) in
          let m : StatementMatches f rule binding j s = match.statements j s at in
          let (v, holds) = some_at H.source j (let count : length H.source ≡ length rule.source - 1 = all_have.count in omega (arith, before)) in
          let have : ResultHas m.block m.place m.inst v = all_have.each j m.block m.place m.inst v (omega (arith, before)) holds m.bound m.is_inst in
          record {
            N = m.inst.width;
            x = operands.Register (registers.Result m.block m.place);
            v = v;
            bound = ap (option_map operands.Register) m.bound;
            holds = holds;
            has = result_has binding.place m.block m.place m.inst.width m.inst v m.is_inst have (width_known f m.block m.place m.is_inst.block m.inst m.is_inst.is_block m.is_inst.is_inst);
          }
      name_has (names.Target j) before = absurd before

      -- the match stands on what is known at the root
      abbrev here : Operand → Known
      here x = known_of (at_place binding.place 0 x)

      follows : (formula : Formula) → Contains rule.precondition formula → FactFollows here rule binding formula
      follows formula among =
          subst (λ p. FactFollows (λ x. known_of (known_at f binding.block p 0 x)) rule binding formula) (sym match.place)
          (subst (λ d. FactFollows (λ x. known_of (known_at f d k 0 x)) rule binding formula) (sym match.block) (match.facts formula among))

      any : (N : ℕ) (x : Operand) → known_of (at_place binding.place 0 x) ≡ known_of (at_place binding.place N x)
      any N x = any_width binding.block (known_results binding.block (take binding.place (insts_of f binding.block))) 0 N x

      masked : (N : ℕ) (x : Operand) (v : Value) (mask : ℕ) → Has binding.place N x v → bit_and mask (here x).zeros ≡ mask → IsTrue (has_no_bit_of mask v)
      masked N x values.Poison mask has within = refl
      masked N x (values.Bits n) mask has within =
          eq-eqb _ _ (masked_number (at_place binding.place N x) n mask (subst (λ w. n.number < 2 ^ w) (sym has.0.0) has.0.1) has.1 (subst (λ known. bit_and mask known.zeros ≡ mask) (any N x) within))

      non_zero : (N : ℕ) (x : Operand) (v : Value) → Has binding.place N x v → ¬ ((here x).ones ≡ 0) → IsTrue (is_not_zero v)
      non_zero N x values.Poison has some = refl
      non_zero N x (values.Bits n) has some =
          let other : ¬ (n.number ≡ 0) = non_zero_number (at_place binding.place N x) n (subst (λ w. n.number < 2 ^ w) (sym has.0.0) has.0.1) has.1 (subst (λ known. ¬ (known.ones ≡ 0)) (any N x) some) in
          ap not (ne_eqb n.number 0 other)

      said : (formula : Formula) → Contains rule.precondition formula → IsTrue (fact_holds H (map number_or_zero (constant_values typing binding.constants rule)) formula)
      said (formulas.MaskedValueIsZero r a) among =
          let has = name_has r (asked_before_root rule r checked (formulas.MaskedValueIsZero r a, among, refl)) in
          rw has.holds (masked has.N has.x has.v (number_of_term rule binding a) has.has (follows (formulas.MaskedValueIsZero r a) among has.x has.bound))
      said (formulas.IsKnownNonZero r) among =
          let has = name_has r (asked_before_root rule r checked (formulas.IsKnownNonZero r, among, refl)) in
          rw has.holds (non_zero has.N has.x has.v has.has (follows (formulas.IsKnownNonZero r) among has.x has.bound))
      said (formulas.HasOneUse j) among = refl
      said (formulas.Compare pred a c) among = refl
      said (formulas.IsPowerOfTwo a) among = refl
      said (formulas.IsSignBit a) among = refl
      said (formulas.Not a) among = refl
      said (formulas.And a c) among = refl
      said (formulas.Or a c) among = refl

      pub facts_held : IsTrue (facts_hold H (map number_or_zero (constant_values typing binding.constants rule)) rule.precondition)
      facts_held = each_said H (map number_or_zero (constant_values typing binding.constants rule)) rule.precondition said
