-- What the parsers of formulas read within wider limits.
use Rattle.rule_viable_prefixes.proofs.Common.{ℕ, zero, suc, ◌≤◌, Bool, true, false, List, [], ◌∷◌, length, refl, arith, codes, drop, list_any, bytes_eq, Limits, AreWithin, Token, Register, Word, Fact, Opening, Turns, Encloses, Tests, Compares, Predicate, RawFormula, And, Or, compares_at, tests_at, one_use_at, masked_at, non_zero_at, joins, members_of, more_alternatives, alternatives_of, turns_at, encloses_at, member_at, outer_member_at, is_outer, or_alternatives, formula_at}
use Rattle.rule_tokens.specs.declared.fact.BitFact.TheVariants as facts
use Rattle.rule_terms.specs.declared.place.TermPlace.TheVariants.{Constant}
use Rattle.rule_terms.specs.Chains.{Reader}
use Rattle.rule_terms.specs.FormulaReaders.{opening_at, register_at, begun_at, too_deep}
use Rattle.rule_viable_prefixes.proofs.Wider.{Below, same_answer, too_many, below_bind, below_if, BelowReader, chain_of_below, name_below, term_below}

-- ---- formulas of any members

joins_below : (operator : ℕ → ℕ → RawFormula) (p q : Reader (List RawFormula)) → BelowReader p q → BelowReader (joins operator p) (joins operator q)
joins_below operator p q below before tokens = below_bind (below before tokens) (λ x. same_answer refl)

members_below : (p q : Reader (List RawFormula)) → BelowReader p q → BelowReader (members_of p) (members_of q)
members_below p q below before tokens = below_bind (below before tokens) (λ first. chain_of_below (length first.1) (codes "&&") (joins And p) (joins And q) (joins_below And p q below) first.0 first.1)

more_alternatives_below : (p q : Reader (List RawFormula)) → BelowReader p q → BelowReader (more_alternatives p) (more_alternatives q)
more_alternatives_below p q below before tokens = chain_of_below (length tokens) (codes "||") (joins Or (members_of p)) (joins Or (members_of q)) (joins_below Or (members_of p) (members_of q) (members_below p q below)) before tokens

alternatives_below : (p q : Reader (List RawFormula)) → BelowReader p q → BelowReader (alternatives_of p) (alternatives_of q)
alternatives_below p q below before tokens = below_bind (members_below p q below before tokens) (λ first. more_alternatives_below p q below first.0 first.1)

turns_below : (p q : Reader (List RawFormula)) → BelowReader p q → BelowReader (turns_at p) (turns_at q)
turns_below p q below before tokens = below_bind (below before tokens) (λ x. same_answer refl)

encloses_below : (line : ℕ) (p q : Reader (List RawFormula)) → BelowReader p q → BelowReader (encloses_at line p) (encloses_at line q)
encloses_below line p q below before tokens = below_bind (alternatives_below p q below before tokens) (λ formula. same_answer refl)

module _ (limits wider : Limits) (within : AreWithin wider limits) where
  -- ---- members

  compares_below : (n m : ℕ) → n ≤ m → (line : ℕ) → BelowReader (compares_at limits n line) (compares_at wider m line)
  unfolding compares_at
  compares_below n m le line before tokens =
      below_bind (term_below limits wider within Constant n m le line tokens)
      (λ left. below_bind (same_answer refl) (λ pred. below_bind (term_below limits wider within Constant n m le line pred.1) (λ right. same_answer refl)))

  tests_below : (predicate : Predicate) (n m : ℕ) → n ≤ m → (line : ℕ) → BelowReader (tests_at limits predicate n line) (tests_at wider predicate m line)
  unfolding tests_at
  tests_below predicate zero m le line before tokens = below_bind (same_answer refl) (λ opened. too_many line refl)
  tests_below predicate (suc n) zero le line before tokens = absurd (omega arith)
  tests_below predicate (suc n) (suc m) le line before tokens = below_bind (same_answer refl) (λ opened. below_bind (term_below limits wider within Constant n m (omega arith) line opened) (λ term. same_answer refl))

  register_below : (line : ℕ) (tokens : List Token) → Below (register_at limits line tokens) (register_at wider line tokens)
  register_below line (Register name ∷ rest) = below_bind (name_below limits wider within line name) (λ held. same_answer refl)
  register_below line tokens = same_answer refl

  one_use_below : (line : ℕ) → BelowReader (one_use_at limits line) (one_use_at wider line)
  unfolding one_use_at
  one_use_below line before tokens = below_bind (same_answer refl) (λ opened. below_bind (register_below line opened) (λ register. same_answer refl))

  masked_below : (n m : ℕ) → n ≤ m → (line : ℕ) → BelowReader (masked_at limits n line) (masked_at wider m line)
  unfolding masked_at
  masked_below zero m le line before tokens = below_bind (same_answer refl) (λ opened. too_many line refl)
  masked_below (suc n) zero le line before tokens = absurd (omega arith)
  masked_below (suc n) (suc m) le line before tokens =
      below_bind (same_answer refl)
      (λ opened. below_bind (register_below line opened)
      (λ register. below_bind (same_answer refl)
      (λ behind. below_bind (term_below limits wider within Constant n m (omega arith) line behind) (λ term. same_answer refl))))

  non_zero_below : (line : ℕ) → BelowReader (non_zero_at limits line) (non_zero_at wider line)
  unfolding non_zero_at
  non_zero_below line before tokens = below_bind (same_answer refl) (λ opened. below_bind (register_below line opened) (λ register. same_answer refl))

  begun_below : (o : Opening) (n m : ℕ) → n ≤ m → (line : ℕ) (p q : Reader (List RawFormula)) → BelowReader p q → BelowReader (begun_at limits o n line p) (begun_at wider o m line q)
  begun_below Turns n m le line p q below before tokens = turns_below p q below before (drop 1 tokens)
  begun_below Encloses n m le line p q below before tokens = encloses_below line p q below before (drop 1 tokens)
  begun_below (Tests predicate) n m le line p q below before tokens = tests_below predicate n m le line before (drop 1 tokens)
  begun_below Compares n m le line p q below before tokens = compares_below n m le line before tokens

  member_below : (n m : ℕ) → n ≤ m → (line : ℕ) → BelowReader (member_at limits n line) (member_at wider m line)
  unfolding member_at
  member_below zero zero le line before tokens = begun_below (opening_at tokens) zero zero le line (too_deep line) (too_deep line) (λ b ts. same_answer refl) before tokens
  member_below zero (suc m) le line before tokens = begun_below (opening_at tokens) zero (suc m) le line (too_deep line) (member_at wider m line) (λ b ts. too_many line refl) before tokens
  member_below (suc n) zero le line before tokens = absurd (omega arith)
  member_below (suc n) (suc m) le line before tokens =
      begun_below (opening_at tokens) (suc n) (suc m) le line (member_at limits n line) (member_at wider m line) (λ b ts. member_below n m (omega arith) line b ts) before tokens

  -- ---- the whole formula

  outer_below : (line : ℕ) → BelowReader (outer_member_at limits line) (outer_member_at wider line)
  unfolding outer_member_at
  outer_below line before (Word word ∷ rest) = below_if (bytes_eq word (codes "hasOneUse")) (one_use_below line before rest) (member_below limits.nested wider.nested within.nested line before (Word word ∷ rest))
  outer_below line before (Fact facts.MaskedValueIsZero ∷ rest) = masked_below limits.nested wider.nested within.nested line before rest
  outer_below line before (Fact facts.IsKnownNonZero ∷ rest) = non_zero_below line before rest
  outer_below line before tokens = member_below limits.nested wider.nested within.nested line before tokens

  or_alternatives_below : (line : ℕ) (asks : Bool) → BelowReader (or_alternatives limits line asks) (or_alternatives wider line asks)
  or_alternatives_below line true before tokens = same_answer refl
  or_alternatives_below line false before tokens = more_alternatives_below (member_at limits limits.nested line) (member_at wider wider.nested line) (member_below limits.nested wider.nested within.nested line) before tokens

  pub formula_below : (line : ℕ) (tokens : List Token) → Below (formula_at limits line tokens) (formula_at wider line tokens)
  unfolding formula_at
  formula_below line tokens =
      below_bind (members_below (outer_member_at limits line) (outer_member_at wider line) (outer_below line) [] tokens)
      (λ first. below_bind (or_alternatives_below line (list_any is_outer first.0) first.0 first.1) (λ whole. same_answer refl))
