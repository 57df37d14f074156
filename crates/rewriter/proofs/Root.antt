-- The root's effect, on what registers hold in the function, allows that of the rule's source.
use Rattle.rewriter.proofs.Common.{◌≡◌, ◌≢◌, ℕ, inl, inr, Bool, List, Some, refl, sym, ap, subst, ◌∙◌, slice_get, Contains, same_Some, Number, AllowsValue, AllowsEffect, IsValueOf, Value, Effect, AllowsValue-refl, AllowsEffect-trans, Read, read, reads_of, Registers, AnyNumber, OperandGives, Freezes, OpGives, IsChosen, Function, Register, IsRule, SourceMayRead, operands_of, LeavesOpen, ChoiceIsReady, Held, Given, StatementGives, ArgumentGives, frozen, IsTyping, Argument, Rule, Statement, Contains-from_get, statement_open, operand_open, freeze_chosen, StandsFor, OperandMatches, StatementMatches, IsSameOperation, Binding}
use Rattle.ops.specs.declared.value.Value.TheVariants as values
use Rattle.ops.specs.declared.value.Effect.TheVariants as effects
use Rattle.ir_core.specs.declared.instruction.Op.{Op}
use Rattle.ir_core.specs.declared.instruction.Op.TheVariants as ops
use Rattle.ir_core.specs.declared.operand.Operand.{Operand}
use Rattle.ir_core.specs.declared.operand.Operand.TheVariants as operands
use Rattle.rule_core.specs.Run.{OperandGives as RuleOperandGives, OpGives as RuleOpGives}
use Rattle.rule_core.specs.declared.rule.Argument.TheVariants as arguments
use Rattle.rule_core.specs.declared.rule.Op.{Op as RuleOp}
use Rattle.rule_core.specs.declared.rule.Op.TheVariants as rule_ops
use Rattle.rule_core.specs.declared.rule.Operand.{Operand as RuleOperand}
use Rattle.rule_core.specs.declared.rule.Register.TheVariants as names
use Rattle.rewriter.proofs.Computing.{effect_of, computed, computed_by, IsComputed, IsFreeze, freeze_or, inputs_of, plain_inputs, plain_reads, collected, rule_gives, op_gives, effects_allow}
use Rattle.rewriter.proofs.Matched.{read_there, operand_there, inst_allows}
use Rattle.rewriter.proofs.Source.{IsDefined, Standing, argument_gives, operand_matches, widths_agree, may_read, among, truth_width, is_computed}

-- an operand that isn't `undef` gives a value, if its register holds one
defined_gives : (held : Registers) (w : ℕ) (a : Operand) → a ≢ operands.Undef → ((reg : Register) → a ≡ operands.Register reg → (v : Value) × (held reg ≡ Some v)) → (v : Value) × OperandGives AnyNumber held w a v
defined_gives held w (operands.Register r) other holds = holds r refl
defined_gives held w (operands.Number n) other holds = (values.Bits n, refl)
defined_gives held w operands.Undef other holds = absurd (other refl)
defined_gives held w operands.Poison other holds = (values.Poison, refl)

-- only an `undef` of the rule stands for an `undef`
undef_alone : (binding : Binding) → (Contains binding.inputs operands.Undef → ⊥) → (N : ℕ) (a : Argument) → StandsFor binding N a operands.Undef → IsDefined a → ⊥
undef_alone binding no_undef N (arguments.Register (names.Input i)) for defined = no_undef (Contains-from_get binding.inputs i operands.Undef for)
undef_alone binding no_undef N (arguments.Register (names.Source i)) (reg, at, is) defined = cc
undef_alone binding no_undef N (arguments.Register (names.Target i)) for defined = absurd for
undef_alone binding no_undef N (arguments.Literal z) for defined = cc
undef_alone binding no_undef N (arguments.Truth b) for defined = cc
undef_alone binding no_undef N (arguments.Constant k) (n, at, fits, is) defined = cc
undef_alone binding no_undef N (arguments.Undef k) for defined = defined k refl
undef_alone binding no_undef N (arguments.Term n) for defined = absurd for

chosen_bits : (N : ℕ) (n : Number) → IsValueOf N (values.Bits n) → IsChosen AnyNumber N (values.Bits n)
chosen_bits N n (width, below) = (n.number, below, ap (λ (w : ℕ). values.Bits (record { width = w; number = n.number })) width)

-- where a value allows another, a freeze of it may give what allows the other one frozen by the rule's number
frozen_allowed : (w : ℕ) (v u : Value) (n : Number) → AllowsValue v u → IsValueOf w u → IsValueOf w (values.Bits n) → (z : Value) × Freezes AnyNumber w v z × AllowsValue z (frozen u n)
frozen_allowed w values.Poison values.Poison n allows fits own = (values.Bits n, chosen_bits w n own, AllowsValue-refl (values.Bits n))
frozen_allowed w values.Poison (values.Bits m) n allows fits own = (values.Bits m, chosen_bits w m fits, AllowsValue-refl (values.Bits m))
frozen_allowed w (values.Bits m) u n allows fits own = (values.Bits m, refl, subst (λ x. AllowsValue (values.Bits m) (frozen x n)) (sym allows) (AllowsValue-refl (values.Bits m)))

-- a statement that is a freeze matches only a freeze
frozen_inst : (s : RuleOp) (i : Op) (a : RuleOperand) (k : ℕ) → s ≡ rule_ops.Freeze a k → IsSameOperation s i → (x : Operand) × (i ≡ ops.Freeze x)
frozen_inst s i a k is same = of_freeze i (subst (λ op. IsSameOperation op i) is same)
  where
    of_freeze : (i : Op) → IsSameOperation (rule_ops.Freeze a k) i → (x : Operand) × (i ≡ ops.Freeze x)
    of_freeze (ops.Freeze x) same = (x, refl)
    of_freeze i same = absurd same

module _ (f : Function) (rule : Rule) (binding : Binding) (held : Registers) (no_undef : Contains binding.inputs operands.Undef → ⊥)
    (given : Given) (constants : given.constants ≡ binding.constants) (j : ℕ) (H : Held) (standing : Standing f rule binding held j H) where
  -- what an argument other than `undef` gives
  defined_argument : (N : ℕ) (a : Argument) (x : Operand) → StandsFor binding N a x → SourceMayRead rule j a → IsDefined a → ((b : Bool) → a ≡ arguments.Truth b → N ≡ 1)
      → ((reg : Register) → x ≡ operands.Register reg → (v : Value) × (held reg ≡ Some v))
      → (v : Value) × OperandGives AnyNumber held N x v × ((u : Value) × ArgumentGives binding.typing given H N a u × AllowsValue v u)
  defined_argument N a x for may defined one holds =
      let other : x ≢ operands.Undef = λ is. undef_alone binding no_undef N a (subst (λ y. StandsFor binding N a y) is for) defined in
      let v = defined_gives held N x other holds in
      let u = argument_gives f rule binding held no_undef given constants j H standing N a x v.0 for may defined one v.1 in
      (v.0, v.1, (u.0, u.1, u.2.0))

  -- an argument of the root, where a literal `undef` may give any number
  root_argument : (N : ℕ) (a : Argument) (x : Operand) → StandsFor binding N a x → SourceMayRead rule j a → ((b : Bool) → a ≡ arguments.Truth b → N ≡ 1)
      → ((reg : Register) → x ≡ operands.Register reg → (v : Value) × (held reg ≡ Some v))
      → ((k : ℕ) → a ≡ arguments.Undef k → (n : Number) × (slice_get given.choices k ≡ Some n) × IsValueOf N (values.Bits n))
      → (v : Value) × OperandGives AnyNumber held N x v × ((u : Value) × ArgumentGives binding.typing given H N a u × AllowsValue v u)
  root_argument N (arguments.Undef k) x for may one holds chosen =
      let n = chosen k refl in
      let any : OperandGives AnyNumber held N x (values.Bits n.0) = subst (λ y. OperandGives AnyNumber held N y (values.Bits n.0)) (sym for) (chosen_bits N n.0 n.2) in
      (values.Bits n.0, any, (values.Bits n.0, (n.0, n.1, refl), refl))
  root_argument N (arguments.Register r) x for may one holds chosen = defined_argument N (arguments.Register r) x for may (λ k is. cc) one holds
  root_argument N (arguments.Literal z) x for may one holds chosen = defined_argument N (arguments.Literal z) x for may (λ k is. cc) one holds
  root_argument N (arguments.Truth b) x for may one holds chosen = defined_argument N (arguments.Truth b) x for may (λ k is. cc) one holds
  root_argument N (arguments.Constant c) x for may one holds chosen = defined_argument N (arguments.Constant c) x for may (λ k is. cc) one holds
  root_argument N (arguments.Term n) x for may one holds chosen = absurd for

  module _ (checked : IsRule rule) (typed : IsTyping rule binding.typing) (s : Statement) (at : slice_get rule.source j ≡ Some s) (m : StatementMatches f rule binding j s)
      (holds : (n : ℕ) (r : Read) (reg : Register) → slice_get (reads_of f m.block m.place m.inst.width m.inst.op) n ≡ Some r → r.operand ≡ operands.Register reg → (v : Value) × (held reg ≡ Some v))
      (chosen : (k c N : ℕ) → LeavesOpen rule.source k c → slice_get binding.typing c ≡ Some N → ChoiceIsReady given N k)
      (frozen_fits : (a : RuleOperand) (k N : ℕ) (u : Value) → s.op ≡ rule_ops.Freeze a k → slice_get binding.typing a.class ≡ Some N → ArgumentGives binding.typing given H N a.value u → IsValueOf N u) where
    abbrev RootReads : List Read
    RootReads = reads_of f m.block m.place m.inst.width m.inst.op

    -- the effect of the root's statement, and one of the instruction that allows it
    abbrev RootAllows : Type 0
    RootAllows = (source : Effect) × StatementGives binding.typing given H s source × ((e : Effect) × OpGives AnyNumber held m.inst.width m.inst.op e × AllowsEffect e source)

    -- the value of an operand of the instruction, and that of the rule's operand, which it allows
    read_gives : (n : ℕ) (o : RuleOperand) (r : Read) → slice_get (operands_of s.op) n ≡ Some o → slice_get RootReads n ≡ Some r
        → (v : Value) × OperandGives AnyNumber held r.width r.operand v × ((u : Value) × ArgumentGives binding.typing given H r.width o.value u × AllowsValue v u)
    read_gives n o r here there =
        let matches : OperandMatches binding o r = operand_matches f rule binding held checked typed j s at m n o r here there in
        root_argument r.width o.value r.operand matches.value (may_read f rule binding held checked typed j s at m n o here) (truth_width f rule binding held checked typed j s at m n o r here there)
        (λ reg is. holds n r reg there is) (λ k is. chosen k o.class r.width (operand_open rule.source o k (among f rule binding held checked typed j s at m n o here) is) matches.width)

    plain_allows : ¬ IsFreeze s.op → RootAllows
    plain_allows none =
        let plain : inputs_of s.class s.op ≡ operands_of s.op = plain_inputs s.class s.op none in
        let taken = plain_reads f m.block m.place m.inst.width s.op m.inst.op m.matches.operation none in
        let is : IsComputed m.inst.op = is_computed f rule binding held checked typed j s at m in
        let one : (n : ℕ) (r : Read) → slice_get RootReads n ≡ Some r → (x : Value) × (OperandGives AnyNumber held r.width r.operand x × ((o : RuleOperand) → slice_get (operands_of s.op) n ≡ Some o → (u : Value) × (RuleOperandGives binding.typing given H o u × AllowsValue x u))) = λ n r there.
        let o = operand_there f m.block m.place m.inst.width s.op m.inst.op m.matches.operation n r there in
        let matches : OperandMatches binding o.0 r = operand_matches f rule binding held checked typed j s at m n o.0 r o.1 there in
        let g = read_gives n o.0 r o.1 there in
        (g.0, (g.1, λ p here. (g.2.0, (subst (λ q. RuleOperandGives binding.typing given H q g.2.0) (same_Some o.0 p (sym o.1 ∙ here)) (r.width, matches.width, g.2.1), g.2.2)))) in
        let x = collected (λ n r v. OperandGives AnyNumber held r.width r.operand v × ((o : RuleOperand) → slice_get (operands_of s.op) n ≡ Some o → (u : Value) × (RuleOperandGives binding.typing given H o u × AllowsValue v u))) RootReads one in
        let u = collected (λ n o v. RuleOperandGives binding.typing given H o v × AllowsValue (x.0 n) v) (operands_of s.op)
        (λ n o here. let r = read_there f m.block m.place m.inst.width s.op m.inst.op m.matches.operation n o here in (x.1 n r.0 r.1).1 o here) in
        let source : Effect = effect_of (computed binding.typing m.inst.width s.op) u.0 in
        let own : Effect = effect_of (computed binding.typing m.inst.width s.op) x.0 in
        let e : Effect = effect_of (computed_by m.inst.width m.inst.op) x.0 in
        let by_flags : AllowsEffect e own = inst_allows binding.typing f m.block m.place m.inst.width s.op m.inst.op m.matches.operation m.matches.flags (widths_agree f rule binding held checked typed j s at m) x.0 in
        let by_values : AllowsEffect own source = effects_allow binding.typing m.inst.width s.op x.0 u.0 none (λ n o here. (u.1 n o here).1) in (
          source,
          (m.inst.width, m.matches.width, rule_gives binding.typing given H s.class m.inst.width m.matches.width s.op u.0 (λ n o here. (u.1 n o (ap (λ (l : List RuleOperand). slice_get l n) (sym plain) ∙ here)).0)),
          (e, op_gives f m.block m.place held m.inst.width m.inst.op x.0 is (λ n r there. (x.1 n r (ap (λ (l : List Read). slice_get l n) (sym taken) ∙ there)).0), AllowsEffect-trans e own source by_flags by_values),
        )

    -- in the place of poison a freeze may give what its operand gives in the rule, or else the number that is chosen
    -- there
    freeze_allows : (a : RuleOperand) (k : ℕ) → s.op ≡ rule_ops.Freeze a k → RootAllows
    freeze_allows a k is =
        let w : ℕ = m.inst.width in
        let x = frozen_inst s.op m.inst.op a k is m.matches.operation in
        let r : Read = read m.block m.place w x.0 in
        let here : slice_get (operands_of s.op) 0 ≡ Some a = ap (λ (op : RuleOp). slice_get (operands_of op) 0) is in
        let there : slice_get RootReads 0 ≡ Some r = ap (λ (op : Op). slice_get (reads_of f m.block m.place w op) 0) x.1 in
        let class : slice_get binding.typing a.class ≡ Some w = widths_agree f rule binding held checked typed j s at m 0 a r here there in
        let g = read_gives 0 a r here there in
        let left_open : LeavesOpen rule.source k s.class = statement_open rule.source s (record { place = k; class = s.class }) (Contains-from_get rule.source j s at) (freeze_chosen s a k is) in
        let n = chosen k s.class w left_open m.matches.width in
        let z = frozen_allowed w g.0 g.2.0 n.0 g.2.2 (frozen_fits a k w g.2.0 is class g.2.1) n.2 in (
          effects.Gives (frozen g.2.0 n.0),
          (w, m.matches.width, subst (λ (op : RuleOp). RuleOpGives binding.typing given H w op (effects.Gives (frozen g.2.0 n.0))) (sym is) (g.2.0, n.0, (w, class, g.2.1), n.1, refl)),
          (effects.Gives z.0, subst (λ (op : Op). OpGives AnyNumber held w op (effects.Gives z.0)) (sym x.1) (g.0, z.0, g.1, z.1, refl), z.2),
        )

    pub root_allows : RootAllows
    root_allows = elim (freeze_or s.op) [ inl freeze ↦ freeze_allows freeze.0 freeze.1 freeze.2 | inr none ↦ plain_allows none ]
