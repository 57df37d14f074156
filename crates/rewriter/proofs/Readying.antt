-- All that the target reads is bound, where a rule was read from a file and its names are bound.
use Rattle.rewriter.proofs.Common.{◌≡◌, ℕ, ◌≤◌, [], ◌∷◌, Some, refl, arith, slice_get, Contains, IsRule, TargetMayRead, operands_of, IsStatementOf, Argument, Copy, Rule, Statement, Contains-from_get, target_statement, class_stands, operand_class_stands, Binding, IsBound, OperandIsReady}
use Rattle.rule_core.specs.declared.rule.Argument.TheVariants as arguments
use Rattle.rule_core.specs.declared.rule.Op.{Op}
use Rattle.rule_core.specs.declared.rule.Op.TheVariants.{Binary, Compare, Unary, Select, Convert, Freeze}
use Rattle.rule_core.specs.declared.rule.Operand.{Operand}
use Rattle.rule_core.specs.declared.rule.Register.TheVariants as names
use Rattle.rewriter.specs.Ready.{OpIsReady, StatementIsReady}

module _ (rule : Rule) (binding : Binding) where
  by_operand : (k : ℕ) (op : Op) → ((o : Operand) → Contains (operands_of op) o → OperandIsReady rule binding k o) → OpIsReady rule binding k op
  by_operand k (Binary opcode flags a b) h = (h a (Contains-from_get (a ∷ b ∷ []) 0 a refl), h b (Contains-from_get (a ∷ b ∷ []) 1 b refl))
  by_operand k (Compare pred samesign a b) h = (h a (Contains-from_get (a ∷ b ∷ []) 0 a refl), h b (Contains-from_get (a ∷ b ∷ []) 1 b refl))
  by_operand k (Unary op truth a) h = h a (Contains-from_get (a ∷ []) 0 a refl)
  by_operand k (Select c a b) h = (h c (Contains-from_get (c ∷ a ∷ b ∷ []) 0 c refl), h a (Contains-from_get (c ∷ a ∷ b ∷ []) 1 a refl), h b (Contains-from_get (c ∷ a ∷ b ∷ []) 2 b refl))
  by_operand k (Convert cast flags a to) h = h a (Contains-from_get (a ∷ []) 0 a refl)
  by_operand k (Freeze a j) h = h a (Contains-from_get (a ∷ []) 0 a refl)
  by_operand k (Copy a) h = h a (Contains-from_get (a ∷ []) 0 a refl)

  -- what a statement may read, a later one may
  may_later : (k n : ℕ) (a : Argument) → k ≤ n → TargetMayRead rule k a → TargetMayRead rule n a
  may_later k n (arguments.Register (names.Input i)) le h = h
  may_later k n (arguments.Register (names.Source j)) le h = h
  may_later k n (arguments.Register (names.Target j)) le h = omega arith
  may_later k n (arguments.Literal z) le h = h
  may_later k n (arguments.Truth b) le h = h
  may_later k n (arguments.Constant j) le h = h
  may_later k n (arguments.Undef j) le h = h
  may_later k n (arguments.Term m) le h = h

  -- all that target statement k reads is bound, where there are operands for at least k registers of the target
  pub statement_ready : IsRule rule → IsBound rule binding → (k n : ℕ) (s : Statement) → k ≤ n → slice_get rule.target k ≡ Some s → StatementIsReady rule binding n s
  statement_ready is_rule bound k n s le at =
      let stands : IsStatementOf rule s = target_statement rule k s at in
      record {
        class = bound.typing.classes s.class (class_stands rule s stands);
        op = by_operand n s.op (λ o among. record { class = bound.typing.classes o.class (operand_class_stands rule s o stands among); value = may_later k n o.value le (is_rule.target_reads k s o at among) });
      }
