-- The source of a rule that matches runs on what registers hold where the function comes to the root.
use Rattle.rewriter.proofs.Common.{◌≡◌, ◌≢◌, ℕ, suc, ◌+◌, ◌-◌, ◌<◌, inl, inr, Bool, List, [], ◌∷◌, ◌++◌, length, map, take, length-take, length-append, Some, refl, sym, ap, subst, ◌∙◌, arith, slice_get, Contains, if◌then◌else◌, unwrap_or, option_map, cases_lt, same_Some, slice_get-map, residue, bits, Number, AllowsValue, AllowsEffect, Value, Effect, AllowsValue-refl, AllowsEffect-trans, IsInst, Read, reads_of, Registers, AnyNumber, OperandGives, Function, Inst, Register, IsRule, SourceMayRead, MayStandInSource, operands_of, IsOperandAmong, truth, Held, Given, Holds, given_by, at_start, holding_source, TemporariesEnd, Follows, StatementGives, ArgumentGives, IsTyping, Argument, Rule, Statement, Contains-from_get, source_operand, Contains-flat_map, get_taken, EquationHolds, value_of, get_left, get_right, inst_reads, StandsFor, OperandMatches, StatementMatches, TargetNamesTemporary, Binding}
use Rattle.ops.specs.declared.value.Value.TheVariants as values
use Rattle.ops.specs.declared.value.Effect.TheVariants as effects
use Rattle.ir_core.specs.declared.operand.Operand.{Operand}
use Rattle.ir_core.specs.declared.operand.Operand.TheVariants as operands
use Rattle.ir_core.specs.declared.operand.Register.TheVariants as registers
use Rattle.rule_core.specs.Run.{OperandGives as RuleOperandGives}
use Rattle.rule_core.specs.declared.rule.Argument.TheVariants as arguments
use Rattle.rule_core.specs.declared.rule.Op.{Op as RuleOp}
use Rattle.rule_core.specs.declared.rule.Op.TheVariants as rule_ops
use Rattle.rule_core.specs.declared.rule.Operand.{Operand as RuleOperand}
use Rattle.rule_core.specs.declared.rule.Register.TheVariants as names
use Rattle.rewriter.proofs.Computing.{Computation, effect_of, computed, computed_by, IsComputed, IsFreeze, inputs_of, plain_inputs, plain_reads, collected, rule_gives, op_computes, effects_allow, effects_same}
use Rattle.rewriter.proofs.Matched.{same_is_computed, read_there, inst_allows, inst_same}

-- the value of a rule's input that is bound to this operand
abbrev pub input_value : Registers → Operand → Value
input_value held a = unwrap_or (value_of held a) values.Poison

abbrev pub input_values : Registers → Binding → List Value
input_values held binding = map (input_value held) binding.inputs

pub input_is : (held : Registers) (w : ℕ) (a : Operand) (v : Value) → a ≢ operands.Undef → OperandGives AnyNumber held w a v → input_value held a ≡ v
input_is held w (operands.Register r) v other h = ap (λ o. unwrap_or o values.Poison) h
input_is held w (operands.Number n) v other h = sym h
input_is held w operands.Undef v other h = absurd (other refl)
input_is held w operands.Poison v other h = sym h

-- an effect that gives a value allows only effects that give one
pub given_of : (t : Value) (e : Effect) → AllowsEffect (effects.Gives t) e → (r : Value) × (e ≡ effects.Gives r) × AllowsValue t r
given_of t effects.Undefined h = absurd h
given_of t (effects.Gives r) h = (r, refl, h)

-- no statement before the root is a freeze
no_freeze_before : (rule : Rule) (j : ℕ) (op : RuleOp) → suc j < length rule.source → MayStandInSource rule j op → ¬ IsFreeze op
no_freeze_before rule j (rule_ops.Freeze a k) before may is = let root : suc j ≡ length rule.source = may in omega arith
no_freeze_before rule j (rule_ops.Binary opcode flags a b) before may is = is
no_freeze_before rule j (rule_ops.Compare pred samesign a b) before may is = is
no_freeze_before rule j (rule_ops.Unary op truth_value a) before may is = is
no_freeze_before rule j (rule_ops.Select c a b) before may is = is
no_freeze_before rule j (rule_ops.Convert cast flags a to) before may is = is
no_freeze_before rule j (rule_ops.Copy a) before may is = is

-- the argument is no `undef`
abbrev pub IsDefined : Argument → Type 0
IsDefined argument = (k : ℕ) → argument ≡ arguments.Undef k → ⊥

module _ (f : Function) (rule : Rule) (binding : Binding) (held : Registers) where
  -- the function's value allows the rule's, and is equal where the target names temporaries
  abbrev pub Stands : Value → Value → Type 0
  Stands t r = AllowsValue t r × (TargetNamesTemporary rule → t ≡ r)

  pub stands-refl : (v : Value) → Stands v v
  stands-refl v = (AllowsValue-refl v, λ reads. refl)

  -- the first j temporaries of the rule hold values that the function's registers stand for in this way
  pub record Standing (j : ℕ) (H : Held) : Type 0 where
    pub inputs : H.inputs ≡ input_values held binding
    pub count : length H.source ≡ j
    pub none : H.target ≡ []
    pub each : (i : ℕ) (reg : Register) → i < j → slice_get binding.statements i ≡ Some reg → (t : Value) × (r : Value) × (held reg ≡ Some t) × (slice_get H.source i ≡ Some r) × Stands t r

  module _ (no_undef : Contains binding.inputs operands.Undef → ⊥) (given : Given) (constants : given.constants ≡ binding.constants) (j : ℕ) (H : Held) (standing : Standing j H) where
    -- the value of an argument that stands for an operand
    pub argument_gives : (N : ℕ) (a : Argument) (x : Operand) (v : Value) → StandsFor binding N a x → SourceMayRead rule j a → IsDefined a → ((b : Bool) → a ≡ arguments.Truth b → N ≡ 1)
        → OperandGives AnyNumber held N x v → (u : Value) × ArgumentGives binding.typing given H N a u × Stands v u
    argument_gives N (arguments.Register (names.Input i)) x v for may defined one h =
        let other : x ≢ operands.Undef = λ is. no_undef (Contains-from_get binding.inputs i operands.Undef (for ∙ ap (λ y. Some y) is)) in
        let u : Value = input_value held x in
        let here : slice_get (input_values held binding) i ≡ Some u = slice_get-map (input_value held) binding.inputs i ∙ ap (option_map (input_value held)) for in
        (u, ap (λ (vs : List Value). slice_get vs i) standing.inputs ∙ here, subst (λ w. Stands w u) (input_is held N x v other h) (stands-refl u))
    argument_gives N (arguments.Register (names.Source i)) x v (reg, at, is) may defined one h =
        let r = standing.each i reg may at in
        let held_is : held reg ≡ Some v = subst (λ y. OperandGives AnyNumber held N y v) is h in
        (r.1, r.3, subst (λ w. Stands w r.1) (same_Some r.0 v (sym r.2 ∙ held_is)) r.4)
    argument_gives N (arguments.Register (names.Target i)) x v for may defined one h = absurd for
    argument_gives N (arguments.Literal z) x v for may defined one h =
        let is : v ≡ bits N (residue N z) = subst (λ y. OperandGives AnyNumber held N y v) for h in
        (bits N (residue N z), refl, subst (λ w. Stands w (bits N (residue N z))) (sym is) (stands-refl (bits N (residue N z))))
    argument_gives N (arguments.Truth b) x v for may defined one h =
        let n : ℕ = if b then 1 else 0 in
        let is : v ≡ bits 1 n = subst (λ y. OperandGives AnyNumber held N y v) for h in
        let same : bits N n ≡ v = ap (λ M. bits M n) (one b refl) ∙ sym is in
        (bits N n, refl, subst (λ w. Stands w (bits N n)) same (stands-refl (bits N n)))
    argument_gives N (arguments.Constant k) x v (n, at, fits, is) may defined one h =
        let same : v ≡ values.Bits n = subst (λ y. OperandGives AnyNumber held N y v) is h in
        (values.Bits n, (n, ap (λ (ns : List Number). slice_get ns k) constants ∙ at, refl), subst (λ w. Stands w (values.Bits n)) (sym same) (stands-refl (values.Bits n)))
    argument_gives N (arguments.Undef k) x v for may defined one h = absurd (defined k refl)
    argument_gives N (arguments.Term n) x v for may defined one h = absurd for

    pub operand_gives : (o : RuleOperand) (r : Read) (v : Value) → OperandMatches binding o r → SourceMayRead rule j o.value → IsDefined o.value → ((b : Bool) → o.value ≡ arguments.Truth b → r.width ≡ 1)
        → OperandGives AnyNumber held r.width r.operand v → (u : Value) × RuleOperandGives binding.typing given H o u × Stands v u
    operand_gives o r v matches may defined one h =
        let g = argument_gives r.width o.value r.operand v matches.value may defined one h in
        (g.0, (r.width, matches.width, g.1), g.2)

  -- ---- a statement that matches

  module _ (checked : IsRule rule) (typed : IsTyping rule binding.typing) (j : ℕ) (s : Statement) (at : slice_get rule.source j ≡ Some s) (matches : StatementMatches f rule binding j s) where
    abbrev pub reads : List Read
    reads = reads_of f matches.block matches.place matches.inst.width matches.inst.op

    pub is_computed : IsComputed matches.inst.op
    is_computed = same_is_computed s.op matches.inst.op matches.matches.operation

    pub operand_matches : (n : ℕ) (o : RuleOperand) (r : Read) → slice_get (operands_of s.op) n ≡ Some o → slice_get reads n ≡ Some r → OperandMatches binding o r
    operand_matches n o r here there = matches.matches.operands n o r here (ap (λ (l : List Read). slice_get l n) (inst_reads f matches.block matches.place matches.inst matches.is_inst) ∙ there)

    pub widths_agree : (n : ℕ) (o : RuleOperand) (r : Read) → slice_get (operands_of s.op) n ≡ Some o → slice_get reads n ≡ Some r → slice_get binding.typing o.class ≡ Some r.width
    widths_agree n o r here there = (operand_matches n o r here there).width

    pub among : (n : ℕ) (o : RuleOperand) → slice_get (operands_of s.op) n ≡ Some o → IsOperandAmong rule.source o
    among n o here = Contains-flat_map (λ (s : Statement). operands_of s.op) rule.source s o (Contains-from_get rule.source j s at) (Contains-from_get (operands_of s.op) n o here)

    pub may_read : (n : ℕ) (o : RuleOperand) → slice_get (operands_of s.op) n ≡ Some o → SourceMayRead rule j o.value
    may_read n o here = checked.source_reads j s o at (Contains-from_get (operands_of s.op) n o here)

    pub truth_width : (n : ℕ) (o : RuleOperand) (r : Read) → slice_get (operands_of s.op) n ≡ Some o → slice_get reads n ≡ Some r → (b : Bool) → o.value ≡ arguments.Truth b → r.width ≡ 1
    truth_width n o r here there b is =
        same_Some r.width 1 (sym (widths_agree n o r here there) ∙ typed.fixed o.class 1 (truth (source_operand rule o (among n o here)) is))

  -- ---- the temporaries

  module _ (checked : IsRule rule) (typed : IsTyping rule binding.typing) (no_undef : Contains binding.inputs operands.Undef → ⊥)
      (statements : (j : ℕ) (s : Statement) → slice_get rule.source j ≡ Some s → StatementMatches f rule binding j s)
      (equations : (j d p : ℕ) (inst : Inst) → suc j < length rule.source → slice_get binding.statements j ≡ Some (registers.Result d p) → IsInst f d p inst → IsComputed inst.op → EquationHolds held d p inst) where
    abbrev pub given : Given
    given = given_by binding.typing binding.constants [] rule

    -- the next temporary holds a value that the function's register stands for
    source_step : (j : ℕ) (s : Statement) (H : Held) → slice_get rule.source j ≡ Some s → suc j < length rule.source → Standing j H
        → (r : Value) × StatementGives binding.typing given H s (effects.Gives r) × ((reg : Register) → slice_get binding.statements j ≡ Some reg → (t : Value) × (held reg ≡ Some t) × Stands t r)
    source_step j s H at before standing =
        let m : StatementMatches f rule binding j s = statements j s at in
        let is : IsComputed m.inst.op = is_computed checked typed j s at m in
        let eq : EquationHolds held m.block m.place m.inst = equations j m.block m.place m.inst before m.bound m.is_inst is in
        let x = op_computes f m.block m.place held m.inst.width m.inst.op (effects.Gives eq.0) is eq.2 in
        let none : ¬ IsFreeze s.op = no_freeze_before rule j s.op before (checked.source_ops j s at) in
        let plain : inputs_of s.class s.op ≡ operands_of s.op = plain_inputs s.class s.op none in
        let taken = plain_reads f m.block m.place m.inst.width s.op m.inst.op m.matches.operation none in
        let one : (n : ℕ) (o : RuleOperand) → slice_get (operands_of s.op) n ≡ Some o → (u : Value) × (RuleOperandGives binding.typing given H o u × Stands (x.0 n) u) = λ n o here.
        let r = read_there f m.block m.place m.inst.width s.op m.inst.op m.matches.operation n o here in
        let defined : IsDefined o.value = λ k is. let root : suc j ≡ length rule.source = subst (SourceMayRead rule j) is (may_read checked typed j s at m n o here) in absurd (omega arith) in
        let g = operand_gives no_undef given refl j H standing o r.0 (x.0 n) (operand_matches checked typed j s at m n o r.0 here r.1) (may_read checked typed j s at m n o here) defined (truth_width checked typed j s at m n o r.0 here r.1) (x.1 n r.0 (ap (λ (l : List Read). slice_get l n) taken ∙ r.1)) in
        (g.0, (g.1, g.2)) in
        let u = collected (λ n o v. RuleOperandGives binding.typing given H o v × Stands (x.0 n) v) (operands_of s.op) one in
        let e : Effect = effect_of (computed binding.typing m.inst.width s.op) u.0 in
        let gives : StatementGives binding.typing given H s e = (m.inst.width, m.matches.width, rule_gives binding.typing given H s.class m.inst.width m.matches.width s.op u.0 (λ n o here. (u.1 n o (ap (λ (l : List RuleOperand). slice_get l n) (sym plain) ∙ here)).0)) in
        let own : Effect = effect_of (computed binding.typing m.inst.width s.op) x.0 in
        let by_flags : AllowsEffect (effect_of (computed_by m.inst.width m.inst.op) x.0) own = inst_allows binding.typing f m.block m.place m.inst.width s.op m.inst.op m.matches.operation m.matches.flags (widths_agree checked typed j s at m) x.0 in
        let by_values : AllowsEffect own e = effects_allow binding.typing m.inst.width s.op x.0 u.0 none (λ n o here. (u.1 n o here).1.0) in
        let allows : AllowsEffect (effects.Gives eq.0) e = subst (λ (d : Effect). AllowsEffect d e) (sym x.2) (AllowsEffect-trans (effect_of (computed_by m.inst.width m.inst.op) x.0) own e by_flags by_values) in
        let r = given_of eq.0 e allows in
        let exact : TargetNamesTemporary rule → eq.0 ≡ r.0 = λ reads.
        let same : computed_by m.inst.width m.inst.op ≡ computed binding.typing m.inst.width s.op = inst_same binding.typing f m.block m.place m.inst.width s.op m.inst.op m.matches.operation (m.matches.no_more_flags before reads) (widths_agree checked typed j s at m) in
        let equal : own ≡ e = effects_same binding.typing s.class m.inst.width s.op x.0 u.0 (λ n o here. (u.1 n o (ap (λ (l : List RuleOperand). slice_get l n) (sym plain) ∙ here)).1.1 reads) in
        let read : effects.Gives eq.0 ≡ effect_of (computed_by m.inst.width m.inst.op) x.0 = x.2 in
        let computes : effect_of (computed_by m.inst.width m.inst.op) x.0 ≡ own = ap (λ (c : Computation). effect_of c x.0) same in
        let gives_value : e ≡ effects.Gives r.0 = r.1 in
        cc in (
          r.0,
          subst (λ (d : Effect). StatementGives binding.typing given H s d) r.1 gives,
          λ reg bound. (eq.0, ap held (same_Some reg (registers.Result m.block m.place) (sym bound ∙ m.bound)) ∙ eq.1, (r.2, exact)),
        )

    standing_next : (j : ℕ) (H : Held) (r : Value) → Standing j H → ((reg : Register) → slice_get binding.statements j ≡ Some reg → (t : Value) × (held reg ≡ Some t) × Stands t r) → Standing (suc j) (holding_source H r)
    standing_next j H r standing last =
        record {
          inputs = standing.inputs;
          count = let long : length (H.source ++ r ∷ []) ≡ length H.source + 1 = length-append H.source (r ∷ []) in let count : length H.source ≡ j = standing.count in omega arith;
          none = standing.none;
          each = λ i reg lt at. elim (cases_lt i j) [
            | inl before ↦ let old = standing.each i reg before at in (old.0, old.1, old.2, get_left H.source (r ∷ []) i old.1 old.3, old.4)
            | inr behind ↦
                let same : i ≡ j = omega arith in
                let now = last reg (subst (λ n. slice_get binding.statements n ≡ Some reg) same at) in
                let count : length H.source ≡ j = standing.count in
                (now.0, r, now.1, get_right H.source (r ∷ []) 0 i r refl (omega arith), now.2)
          ];
        }

    temporaries : (rest : List Statement) (k : ℕ) (H : Held) → ((i : ℕ) (s : Statement) → slice_get rest i ≡ Some s → (slice_get rule.source (k + i) ≡ Some s) × (suc (k + i) < length rule.source)) → Standing k H
        → (end : Held) × Follows binding.typing given holding_source rest H (Holds end) × Standing (k + length rest) end
    temporaries [] k H align standing = (H, refl, subst (λ n. Standing n H) (omega arith) standing)
    temporaries (s ∷ rest) k H align standing =
        let first = align 0 s refl in
        let zero_is : k + 0 ≡ k = omega arith in
        let at : slice_get rule.source k ≡ Some s = subst (λ n. slice_get rule.source n ≡ Some s) zero_is first.0 in
        let before : suc k < length rule.source = subst (λ n. suc n < length rule.source) zero_is first.1 in
        let step = source_step k s H at before standing in
        let align' : (i : ℕ) (t : Statement) → slice_get rest i ≡ Some t → (slice_get rule.source (suc k + i) ≡ Some t) × (suc (suc k + i) < length rule.source) = λ i t h.
        let next : k + suc i ≡ suc k + i = omega arith in
        subst (λ n. (slice_get rule.source n ≡ Some t) × (suc n < length rule.source)) next (align (suc i) t h) in
        let tail = temporaries rest (suc k) (holding_source H step.0) align' (standing_next k H step.0 standing step.2) in
        let count : suc k + length rest ≡ k + suc (length rest) = omega arith in
        (tail.0, (effects.Gives step.0, step.1, tail.1), subst (λ n. Standing n tail.0) count tail.2)

    -- the temporaries end with values that the function's registers stand for
    pub temporaries_stand : (end : Held) × TemporariesEnd binding.typing binding.constants rule (input_values held binding) (Holds end) × Standing (length rule.source - 1) end
    temporaries_stand =
        let n : ℕ = length rule.source - 1 in
        let run = temporaries (take n rule.source) 0 (at_start (input_values held binding))
        (λ i s h. let whole = get_taken rule.source n i s h in let lt : i < n = whole.1 in (subst (λ p. slice_get rule.source p ≡ Some s) (omega arith) whole.0, omega arith))
        (record { inputs = refl; count = refl; none = refl; each = λ i reg lt. absurd (omega arith) }) in
        let count : 0 + length (take n rule.source) ≡ n = omega (arith, length-take n rule.source) in
        (run.0, run.1, subst (λ n. Standing n run.0) count run.2)
