-- What a statement that matches an instruction computes there.
use Rattle.rewriter.proofs.Common.{◌≡◌, ℕ, zero, suc, ◌<◌, List, [], ◌∷◌, length, Some, refl, sym, ap, subst, arith, slice_get, slice_index, same_Some, get_or_from_slice_get, slice_get_within, AllowsEffect, instruction, Opcode, Value, AllowsEffect-refl, IsPhi, Read, read, reads_of, Function, Phi, some_at, operands_of, IsSameOperation, promises_of_statement, promises_of_inst, AreKept, Promises}
use Rattle.ir_core.specs.declared.instruction.Op.{Op}
use Rattle.ir_core.specs.declared.operand.Operand.{Operand}
use Rattle.ir_core.specs.declared.instruction.Op.TheVariants.{Binary, Compare, Unary, Select, Convert, Freeze}
use Rattle.rule_core.specs.declared.rule.Op.{Op as RuleOp}
use Rattle.rule_core.specs.declared.rule.Op.TheVariants as rule_ops
use Rattle.rule_core.specs.declared.rule.Operand.{Operand as RuleOperand}
use Rattle.rewriter.proofs.Flags.{more_flags_allow, more_cast_flags_allow, more_truth_allows, more_samesign_allows}
use Rattle.rewriter.proofs.Computing.{Computation, Compares, Calls, Selects, Converts, Freezing, effect_of, computed, computed_by, IsComputed}

pub same_is_computed : (s : RuleOp) (i : Op) → IsSameOperation s i → IsComputed i
same_is_computed (rule_ops.Binary opcode flags a b) (Binary opcode' flags' x y) same = tt
same_is_computed (rule_ops.Compare pred samesign a b) (Compare pred' samesign' compared x y) same = tt
same_is_computed (rule_ops.Unary op truth a) (Unary op' truth' x) same = tt
same_is_computed (rule_ops.Select c a b) (Select z x y) same = tt
same_is_computed (rule_ops.Convert cast flags a to) (Convert cast' flags' from x) same = tt
same_is_computed (rule_ops.Freeze a j) (Freeze x) same = tt
same_is_computed s i same = absurd same

pub computed_no_phi : (i : Op) → IsComputed i → ¬ IsPhi i
computed_no_phi (Phi entries) is phi = is
computed_no_phi i is phi = phi

pub arity_same : (f : Function) (b k w : ℕ) (s : RuleOp) (i : Op) → IsSameOperation s i → length (operands_of s) ≡ length (reads_of f b k w i)
arity_same f b k w (rule_ops.Binary opcode flags a c) (Binary opcode' flags' x y) same = refl
arity_same f b k w (rule_ops.Compare pred samesign a c) (Compare pred' samesign' compared x y) same = refl
arity_same f b k w (rule_ops.Unary op truth a) (Unary op' truth' x) same = refl
arity_same f b k w (rule_ops.Select c a d) (Select z x y) same = refl
arity_same f b k w (rule_ops.Convert cast flags a to) (Convert cast' flags' from x) same = refl
arity_same f b k w (rule_ops.Freeze a j) (Freeze x) same = refl
arity_same f b k w s i same = absurd same

-- for each operand of the statement there is one of the instruction, and the other way round
pub read_there : (f : Function) (b k w : ℕ) (s : RuleOp) (i : Op) → IsSameOperation s i → (n : ℕ) (o : RuleOperand) → slice_get (operands_of s) n ≡ Some o → (r : Read) × (slice_get (reads_of f b k w i) n ≡ Some r)
read_there f b k w s i same n o at =
    let here : n < length (operands_of s) = slice_get_within (operands_of s) n o at in
    some_at (reads_of f b k w i) n (omega (arith, arity_same f b k w s i same, here))

pub operand_there : (f : Function) (b k w : ℕ) (s : RuleOp) (i : Op) → IsSameOperation s i → (n : ℕ) (r : Read) → slice_get (reads_of f b k w i) n ≡ Some r → (o : RuleOperand) × (slice_get (operands_of s) n ≡ Some o)
operand_there f b k w s i same n r at =
    let here : n < length (reads_of f b k w i) = slice_get_within (reads_of f b k w i) n r at in
    some_at (operands_of s) n (omega (arith, arity_same f b k w s i same, here))

-- all operands are read at the instruction's own place
IsHere : ℕ → ℕ → Read → Type 0
IsHere b k r = (r.block ≡ b) × (r.place ≡ k)

AllHere : ℕ → ℕ → List Read → Type 0
AllHere b k reads = (n : ℕ) (r : Read) → slice_get reads n ≡ Some r → IsHere b k r

none_here : (b k : ℕ) → AllHere b k []
unfolding AllHere
none_here b k n r at = absurd cc

one_here : (b k w : ℕ) (x : Operand) (reads : List Read) → AllHere b k reads → AllHere b k (read b k w x ∷ reads)
unfolding AllHere IsHere
one_here b k w x reads rest zero r at = (ap (λ (r : Read). r.block) (sym (same_Some (read b k w x) r at)), ap (λ (r : Read). r.place) (sym (same_Some (read b k w x) r at)))
one_here b k w x reads rest (suc n) r at = rest n r at

all_here : (f : Function) (b k w : ℕ) (i : Op) → IsComputed i → AllHere b k (reads_of f b k w i)
all_here f b k w (Binary opcode flags x y) is = one_here b k w x (read b k w y ∷ []) (one_here b k w y [] (none_here b k))
all_here f b k w (Compare pred samesign compared x y) is = one_here b k compared x (read b k compared y ∷ []) (one_here b k compared y [] (none_here b k))
all_here f b k w (Select c x y) is = one_here b k 1 c (read b k w x ∷ read b k w y ∷ []) (one_here b k w x (read b k w y ∷ []) (one_here b k w y [] (none_here b k)))
all_here f b k w (Convert cast flags from x) is = one_here b k from x [] (none_here b k)
all_here f b k w (Unary op truth x) is = one_here b k w x [] (none_here b k)
all_here f b k w (Freeze x) is = one_here b k w x [] (none_here b k)
all_here f b k w (Phi entries) is = absurd is

pub reads_here : (f : Function) (b k w : ℕ) (i : Op) → IsComputed i → (n : ℕ) (r : Read) → slice_get (reads_of f b k w i) n ≡ Some r → (r.block ≡ b) × (r.place ≡ k)
unfolding AllHere IsHere
reads_here f b k w i is = all_here f b k w i is

module _ (typing : List ℕ) (f : Function) (b k w : ℕ) where
  -- the class of each operand has the width at which the instruction reads it
  abbrev pub WidthsAgree : RuleOp → Op → Type 0
  WidthsAgree s i = (n : ℕ) (o : RuleOperand) (r : Read) → slice_get (operands_of s) n ≡ Some o → slice_get (reads_of f b k w i) n ≡ Some r → slice_get typing o.class ≡ Some r.width

  class_is : (a : RuleOperand) (M : ℕ) → slice_get typing a.class ≡ Some M → slice_index typing a.class ≡ M
  class_is a M at = get_or_from_slice_get typing a.class M 0 at

  -- an instruction with all flags of the statement allows what that computes
  pub inst_allows : (s : RuleOp) (i : Op) → IsSameOperation s i → AreKept (promises_of_statement s) (promises_of_inst i) → WidthsAgree s i → (v : ℕ → Value) → AllowsEffect (effect_of (computed_by w i) v) (effect_of (computed typing w s) v)
  inst_allows (rule_ops.Binary opcode flags a c) (Binary opcode' flags' x y) same within widths v =
      subst (λ (op : Opcode). AllowsEffect (instruction opcode' flags' w (v 0) (v 1)) (instruction op flags w (v 0) (v 1))) (sym same) (more_flags_allow flags flags' within.0 opcode' w (v 0) (v 1))
  inst_allows (rule_ops.Compare pred samesign a c) (Compare pred' samesign' compared x y) same within widths v =
      let width : slice_index typing a.class ≡ compared = class_is a compared (widths 0 a (read b k compared x) refl refl) in
      let is : Compares pred' samesign compared ≡ Compares pred samesign (slice_index typing a.class) = cc in
      subst (λ (c : Computation). AllowsEffect (effect_of (Compares pred' samesign' compared) v) (effect_of c v)) is (more_samesign_allows samesign samesign' within.0 pred' compared (v 0) (v 1))
  inst_allows (rule_ops.Unary op truth a) (Unary op' truth' x) same within widths v =
      subst (λ (c : Computation). AllowsEffect (effect_of (Calls op' truth' w) v) (effect_of c v)) (ap (λ o. Calls o truth w) (sym same)) (more_truth_allows truth truth' within.1 op' w (v 0))
  inst_allows (rule_ops.Select c a d) (Select z x y) same within widths v = AllowsEffect-refl (effect_of Selects v)
  inst_allows (rule_ops.Convert cast flags a to) (Convert cast' flags' from x) same within widths v =
      let width : slice_index typing a.class ≡ from = class_is a from (widths 0 a (read b k from x) refl refl) in
      let is : Converts cast' flags from w ≡ Converts cast flags (slice_index typing a.class) w = cc in
      subst (λ (c : Computation). AllowsEffect (effect_of (Converts cast' flags' from w) v) (effect_of c v)) is (more_cast_flags_allow flags flags' within.0 cast' from w (v 0))
  inst_allows (rule_ops.Freeze a j) (Freeze x) same within widths v = AllowsEffect-refl (effect_of Freezing v)
  inst_allows s i same within widths v = absurd same

  -- and one without any others computes the same
  pub inst_same : (s : RuleOp) (i : Op) → IsSameOperation s i → promises_of_inst i ≡ promises_of_statement s → WidthsAgree s i → computed_by w i ≡ computed typing w s
  inst_same (rule_ops.Binary opcode flags a c) (Binary opcode' flags' x y) same promises widths = let same_flags : flags' ≡ flags = ap (λ (p : Promises). p.flags) promises in cc
  inst_same (rule_ops.Compare pred samesign a c) (Compare pred' samesign' compared x y) same promises widths =
      let width : slice_index typing a.class ≡ compared = class_is a compared (widths 0 a (read b k compared x) refl refl) in
      let signs : samesign' ≡ samesign = ap (λ (p : Promises). p.flags.samesign) promises in cc
  inst_same (rule_ops.Unary op truth a) (Unary op' truth' x) same promises widths = let same_truth : truth' ≡ truth = ap (λ (p : Promises). p.truth) promises in cc
  inst_same (rule_ops.Select c a d) (Select z x y) same promises widths = refl
  inst_same (rule_ops.Convert cast flags a to) (Convert cast' flags' from x) same promises widths =
      let same_flags : flags' ≡ flags = ap (λ (p : Promises). p.flags) promises in
      let width : slice_index typing a.class ≡ from = class_is a from (widths 0 a (read b k from x) refl refl) in cc
  inst_same (rule_ops.Freeze a j) (Freeze x) same promises widths = refl
  inst_same s i same promises widths = absurd same
