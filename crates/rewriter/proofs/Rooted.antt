-- What follows from a match for a rewrite: the root is there, all names are bound, and few instructions are inserted.
use Rattle.rewriter.proofs.Common.{◌≡◌, ℕ, ◌-◌, ◌≤◌, List, [], ◌∷◌, length, length-append, Some, None, Result, Ok, Err, subst, arith, slice_get, OnOk, slice_get_within, HasInst, IsInst, Name, Function, Inst, some_at, IsRule, Copy, Rule, Statement, Knowledge, MatchesWhere, StatementMatches, Binding, class_width, insts_of_op, insts_with, insts_put, IsBound}
use Rattle.rule_core.specs.declared.rule.Op.{Op as RuleOp}
use Rattle.rule_core.specs.declared.rule.Op.TheVariants.{Binary, Compare, Unary, Select, Convert, Freeze}
use Rattle.bindings.proofs.Fitting.{constants_fit}

-- an answer with a property has what follows from it
pub on_ok : {T E P Q : Type 0} (r : Result T E) → (P → Q) → OnOk r P → OnOk r Q
on_ok (Ok x) follows h = follows h
on_ok (Err e) follows h = h

module _ {Before : ℕ → ℕ → ℕ → ℕ → Type 0} {known : Knowledge} (f : Function) (rule : Rule) (binding : Binding) (is_rule : IsRule rule) (m : MatchesWhere Before known f binding.block binding.place rule binding) where
  pub is_bound : IsBound rule binding
  is_bound = record {
    statements = m.statement_count;
    inputs = m.input_count;
    typing = m.typing;
    constants = constants_fit f rule binding is_rule m.typing m.constant_count m.statements;
  }

  -- the last source statement is bound to the root
  pub root_there : (root : Inst) × IsInst f binding.block binding.place root
  root_there =
      let some = is_rule.source_root in
      let last : ℕ = length rule.source - 1 in
      let s : (s : Statement) × (slice_get rule.source last ≡ Some s) = some_at rule.source last (omega arith) in
      let bound : StatementMatches f rule binding last s.0 = m.statements last s.0 s.1 in
      let root = bound.matches.root (omega arith) in
      (bound.inst, subst (λ k. IsInst f binding.block k bound.inst) root.1 (subst (λ d. IsInst f d bound.place bound.inst) root.0 bound.is_inst))

  pub has_root : HasInst f binding.block binding.place
  has_root = let root : IsInst f binding.block binding.place root_there.0 = root_there.1 in (root.block, root.is_block, slice_get_within root.block.insts binding.place root_there.0 root.is_inst)

module _ (rule : Rule) (binding : Binding) where
  one_put : (name : Name) (N : ℕ) (op : RuleOp) → length (insts_of_op rule binding name N op) ≤ 1
  one_put name N (Binary opcode flags a b) = omega arith
  one_put name N (Compare pred samesign a b) = omega arith
  one_put name N (Unary op truth a) = omega arith
  one_put name N (Select c a b) = omega arith
  one_put name N (Convert cast flags a to) = omega arith
  one_put name N (Freeze a k) = omega arith
  one_put name N (Copy a) = omega arith

  few_put : (name : Name) (statements : List Statement) → length (insts_put rule binding name statements) ≤ length statements
  few_put name [] = omega arith
  few_put name (s ∷ []) = one_put name (class_width rule binding s.class) s.op
  few_put name (s ∷ t ∷ statements) =
      let one : length (insts_with rule binding None s) ≤ 1 = one_put None (class_width rule binding s.class) s.op in
      let rest : length (insts_put rule binding name (t ∷ statements)) ≤ length (t ∷ statements) = few_put name (t ∷ statements) in
      omega (arith, length-append (insts_with rule binding None s) (insts_put rule binding name (t ∷ statements)))

  pub most_put : IsRule rule → (name : Name) → length (insts_put rule binding name rule.target) ≤ 32
  most_put is_rule name = let few = is_rule.few_in_target in omega (arith, few_put name rule.target)
