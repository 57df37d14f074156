-- What the parsers of rules read within wider limits.
use Rattle.rule_viable_prefixes.proofs.Common.{ℕ, zero, suc, ◌≤◌, List, [], ◌∷◌, length, Option, Some, None, refl, arith, drop, codes, bytes_eq, Cast, no_flags, flags_of_icmp, is_constant, Version, Limits, AreWithin, maybe_type, Token, Line, Head, Name, Register, Word, Number, Witness, Half, Source, Target, Operation, source_word, term_argument_at, argument_at, typed_at, flags_at, pair_at, binary_at, pred_at, compare_at, truth_at, unary_at, select_at, convert_at, freeze_at, copy_at, operation_at, other_at, next_operation, operation_or_other, op_at, statement_at, statements_at, name_text, name_at, precondition_at, expression_at, expressions_at, witness_at, source_at, target_at, rule_at, rules_at, version_at, all_rules}
use Rattle.ops.specs.declared.opcode.Opcode.{Opcode}
use Rattle.ops.specs.declared.opcode.Unary.{Unary as Intrinsic}
use Rattle.rule_terms.specs.declared.place.TermPlace.TheVariants.{Constant}
use Rattle.rule_parse.specs.declared.word.Operation.TheVariants as operations
use Rattle.rule_parse.specs.RuleReaders.{register_at, operand_at}
use Rattle.rule_viable_prefixes.proofs.Wider.{Below, same_answer, too_many, below_bind, below_if, BelowReader, chain_of_below, name_below, term_below}
use Rattle.rule_viable_prefixes.proofs.WiderFormulas.{formula_below}

module _ (limits wider : Limits) (within : AreWithin wider limits) where
  -- ---- operands

  register_below : (line : ℕ) (name : List ℕ) (rest : List Token) → Below (register_at limits line name rest) (register_at wider line name rest)
  register_below line name rest = below_bind (name_below limits wider within line name) (λ held. same_answer refl)

  source_word_below : (line : ℕ) (word : List ℕ) → Below (source_word limits line word) (source_word wider line word)
  unfolding source_word
  source_word_below line word = below_if (is_constant word) (below_bind (name_below limits wider within line word) (λ held. same_answer refl)) (same_answer refl)

  term_argument_below : (line : ℕ) (tokens : List Token) → Below (term_argument_at limits line tokens) (term_argument_at wider line tokens)
  term_argument_below line tokens = below_bind (term_below limits wider within Constant limits.nested wider.nested within.nested line tokens) (λ term. same_answer refl)

  argument_below : (half : Half) (line : ℕ) (tokens : List Token) → Below (argument_at limits half line tokens) (argument_at wider half line tokens)
  unfolding argument_at
  argument_below Source line (Register name ∷ rest) = register_below line name rest
  argument_below Source line (Number text ∷ rest) = same_answer refl
  argument_below Source line (Word word ∷ rest) = below_bind (source_word_below line word) (λ value. same_answer refl)
  argument_below Source line tokens = same_answer refl
  argument_below Target line (Register name ∷ rest) = register_below line name rest
  argument_below Target line (Word word ∷ rest) = below_if (bytes_eq word (codes "undef")) (same_answer refl) (term_argument_below line (Word word ∷ rest))
  argument_below Target line tokens = term_argument_below line tokens

  typed_below : (half : Half) (line : ℕ) (written : Option ℕ) (tokens : List Token) → Below (typed_at limits half line written tokens) (typed_at wider half line written tokens)
  unfolding typed_at
  typed_below half line written tokens = below_bind (argument_below half line tokens) (λ value. same_answer refl)

  operand_below : (half : Half) (line : ℕ) (tokens : List Token) → Below (operand_at limits half line tokens) (operand_at wider half line tokens)
  operand_below half line tokens = typed_below half line (maybe_type tokens).0 (maybe_type tokens).1

  -- ---- what a statement computes

  pair_below : (half : Half) (line : ℕ) (tokens : List Token) → Below (pair_at limits half line tokens) (pair_at wider half line tokens)
  unfolding pair_at
  pair_below half line tokens = below_bind (operand_below half line tokens) (λ left. below_bind (same_answer refl) (λ behind. below_bind (typed_below half line None behind) (λ right. same_answer refl)))

  binary_below : (half : Half) (line : ℕ) (op : Opcode) (tokens : List Token) → Below (binary_at limits half line op tokens) (binary_at wider half line op tokens)
  unfolding binary_at
  binary_below half line op tokens = below_bind (same_answer refl) (λ flags. below_bind (pair_below half line flags.1) (λ pair. same_answer refl))

  compare_below : (half : Half) (line : ℕ) (tokens : List Token) → Below (compare_at limits half line tokens) (compare_at wider half line tokens)
  unfolding compare_at
  compare_below half line tokens =
      below_bind {a = flags_at flags_of_icmp line no_flags tokens} (same_answer refl)
      (λ flags. below_bind {a = pred_at line flags.1} (same_answer refl) (λ pred. below_bind (pair_below half line pred.1) (λ pair. same_answer refl)))

  unary_below : (half : Half) (line : ℕ) (op : Intrinsic) (tokens : List Token) → Below (unary_at limits half line op tokens) (unary_at wider half line op tokens)
  unfolding unary_at
  unary_below half line op tokens = below_bind {a = truth_at op line tokens} (same_answer refl) (λ truth. below_bind (operand_below half line truth.1) (λ operand. same_answer refl))

  select_below : (half : Half) (line : ℕ) (tokens : List Token) → Below (select_at limits half line tokens) (select_at wider half line tokens)
  unfolding select_at
  select_below half line tokens =
      below_bind (operand_below half line tokens)
      (λ condition. below_bind (same_answer refl) (λ first. below_bind (operand_below half line first) (λ if_true. below_bind (same_answer refl) (λ second. below_bind (operand_below half line second) (λ if_false. same_answer refl)))))

  convert_below : (half : Half) (line : ℕ) (cast : Cast) (tokens : List Token) → Below (convert_at limits half line cast tokens) (convert_at wider half line cast tokens)
  unfolding convert_at
  convert_below half line cast tokens = below_bind (same_answer refl) (λ flags. below_bind (operand_below half line flags.1) (λ from. same_answer refl))

  freeze_below : (half : Half) (line : ℕ) (tokens : List Token) → Below (freeze_at limits half line tokens) (freeze_at wider half line tokens)
  unfolding freeze_at
  freeze_below half line tokens = below_bind (operand_below half line tokens) (λ operand. same_answer refl)

  copy_below : (line : ℕ) (tokens : List Token) → Below (copy_at limits line tokens) (copy_at wider line tokens)
  unfolding copy_at
  copy_below line tokens = below_bind (operand_below Target line tokens) (λ operand. same_answer refl)

  operation_below : (half : Half) (line : ℕ) (operation : Operation) (tokens : List Token) → Below (operation_at limits half line operation tokens) (operation_at wider half line operation tokens)
  operation_below half line (operations.Binary op) tokens = binary_below half line op tokens
  operation_below half line operations.Compare tokens = compare_below half line tokens
  operation_below half line (operations.Unary op) tokens = unary_below half line op tokens
  operation_below half line operations.Select tokens = select_below half line tokens
  operation_below half line (operations.Convert cast) tokens = convert_below half line cast tokens
  operation_below half line operations.Freeze tokens = freeze_below half line tokens

  other_below : (half : Half) (line : ℕ) (tokens : List Token) → Below (other_at limits half line tokens) (other_at wider half line tokens)
  other_below Source line tokens = same_answer refl
  other_below Target line tokens = copy_below line tokens

  operation_or_other_below : (half : Half) (line : ℕ) (found : Option Operation) (tokens : List Token) → Below (operation_or_other limits half line found tokens) (operation_or_other wider half line found tokens)
  operation_or_other_below half line (Some operation) tokens = operation_below half line operation (drop 1 tokens)
  operation_or_other_below half line None tokens = other_below half line tokens

  op_below : (version : Version) (half : Half) (line : ℕ) (tokens : List Token) → Below (op_at limits version half line tokens) (op_at wider version half line tokens)
  unfolding op_at
  op_below version half line tokens = operation_or_other_below half line (next_operation version tokens) tokens

  -- ---- statements

  statement_below : (version : Version) (half : Half) (line : ℕ) (register : List ℕ) (tokens : List Token) → Below (statement_at limits version half line register tokens) (statement_at wider version half line register tokens)
  unfolding statement_at
  statement_below version half line register tokens =
      below_bind (name_below limits wider within line register) (λ name. below_bind (same_answer refl) (λ behind. below_bind (op_below version half line behind) (λ op. same_answer refl)))

  statements_below : (version : Version) (n m : ℕ) → n ≤ m → (half : Half) (tokens : List Token) → Below (statements_at limits version n half tokens) (statements_at wider version m half tokens)
  unfolding statements_at
  statements_below version zero m le half (Line line ∷ Register name ∷ rest) = too_many line refl
  statements_below version (suc n) zero le half (Line line ∷ Register name ∷ rest) = absurd (omega arith)
  statements_below version (suc n) (suc m) le half (Line line ∷ Register name ∷ rest) =
      below_bind (statement_below version half line name rest) (λ first. below_bind (statements_below version n m (omega arith) half first.1) (λ others. same_answer refl))
  statements_below version zero zero le half tokens = same_answer refl
  statements_below version zero (suc m) le half tokens = same_answer refl
  statements_below version (suc n) zero le half tokens = absurd (omega arith)
  statements_below version (suc n) (suc m) le half tokens = same_answer refl

  -- ---- the parts of a rule

  name_text_below : (line : ℕ) (tokens : List Token) → Below (name_text limits line tokens) (name_text wider line tokens)
  name_text_below line (Name [] ∷ rest) = same_answer refl
  name_text_below line (Name (b ∷ text) ∷ rest) = below_bind (name_below limits wider within line (b ∷ text)) (λ name. same_answer refl)
  name_text_below line tokens = same_answer refl

  name_at_below : (last : ℕ) (tokens : List Token) → Below (name_at limits last tokens) (name_at wider last tokens)
  unfolding name_at
  name_at_below last (Line line ∷ Head head ∷ rest) = below_if (bytes_eq head (codes "Name:")) (below_bind (name_text_below line rest) (λ name. same_answer refl)) (same_answer refl)
  name_at_below last tokens = same_answer refl

  precondition_below : (tokens : List Token) → Below (precondition_at limits tokens) (precondition_at wider tokens)
  unfolding precondition_at
  precondition_below (Line line ∷ Head head ∷ rest) = below_if (bytes_eq head (codes "Pre:")) (below_bind (formula_below limits wider within line rest) (λ formula. same_answer refl)) (same_answer refl)
  precondition_below tokens = same_answer refl

  expression_below : (line : ℕ) → BelowReader (expression_at limits line) (expression_at wider line)
  expression_below line before tokens = below_bind (term_below limits wider within Witness limits.nested wider.nested within.nested line tokens) (λ term. same_answer refl)

  expressions_below : (line : ℕ) (tokens : List Token) → Below (expressions_at limits line tokens) (expressions_at wider line tokens)
  unfolding expressions_at
  expressions_below line tokens =
      below_bind (expression_below line [] tokens)
      (λ first. below_bind (chain_of_below (length first.1) (codes ",") (expression_at limits line) (expression_at wider line) (expression_below line) first.0 first.1) (λ all. same_answer refl))

  witness_below : (tokens : List Token) → Below (witness_at limits tokens) (witness_at wider tokens)
  unfolding witness_at
  witness_below (Line line ∷ Head head ∷ rest) = below_if (bytes_eq head (codes "Wit:")) (below_bind (expressions_below line rest) (λ all. same_answer refl)) (same_answer refl)
  witness_below tokens = same_answer refl

  source_below : (version : Version) (last : ℕ) (tokens : List Token) → Below (source_at limits version last tokens) (source_at wider version last tokens)
  unfolding source_at
  source_below version last (Line line ∷ Register name ∷ rest) = statements_below version limits.statements wider.statements within.statements Source (Line line ∷ Register name ∷ rest)
  source_below version last tokens = same_answer refl

  target_below : (version : Version) (last : ℕ) (tokens : List Token) → Below (target_at limits version last tokens) (target_at wider version last tokens)
  unfolding target_at
  target_below version last (Line line ∷ Register name ∷ rest) = statements_below version limits.statements wider.statements within.statements Target (Line line ∷ Register name ∷ rest)
  target_below version last tokens = same_answer refl

  -- ---- rules

  rule_below : (version : Version) (last : ℕ) (tokens : List Token) → Below (rule_at limits version last tokens) (rule_at wider version last tokens)
  unfolding rule_at
  rule_below version last tokens =
      below_bind (name_at_below last tokens)
      (λ name. below_bind (precondition_below name.1)
      (λ precondition. below_bind (witness_below precondition.1)
      (λ witness. below_bind (source_below version last witness.1)
      (λ source. below_bind (same_answer refl)
      (λ behind. below_bind (target_below version last behind) (λ target. same_answer refl))))))

  rules_below : (version : Version) (n last : ℕ) (tokens : List Token) → Below (rules_at limits version n last tokens) (rules_at wider version n last tokens)
  unfolding rules_at
  rules_below version n last [] = same_answer refl
  rules_below version zero last (token ∷ tokens) = same_answer refl
  rules_below version (suc n) last (token ∷ tokens) = below_bind (rule_below version last (token ∷ tokens)) (λ first. below_bind (rules_below version n last first.1) (λ others. same_answer refl))

  pub all_rules_below : (last : ℕ) (tokens : List Token) → Below (all_rules limits last tokens) (all_rules wider last tokens)
  all_rules_below last tokens = below_bind {a = version_at tokens} (same_answer refl) (λ version. rules_below version.0 (length version.1) last version.1)
