-- What the parsers of operands, operations and statements do on a line.
use Rattle.rule_viable_prefixes.proofs.Common.{◌≡◌, ℕ, ◌<◌, Bool, true, false, List, [], ◌∷◌, ◌++◌, length, map, Option, Some, None, Ok, refl, sym, ap, subst, ◌∙◌, append_assoc, ◌≤◌, Result, Err, inl, inr, arith, IsTrue, codes, bytes_eq, Flags, Pred, Eq, Cast, no_flags, flags_of, flags_of_cast, flags_of_icmp, icmp_flags, append-nil, map-append, Flag, Nuw, Nsw, Exact, NNeg, Disjoint, SameSign, RuleFault, predicate_keyword, pred_in, AddsFlags, flag_in, flag_keyword, has_flag, with_flag, same_word, pred_in-is, flag_in-is, flag_in-of, flags_are_icmp, taken_flags, is_constant, RuleFaultKind, Syntax, LeftOut, TooMany, ◌>>=◌, literal_value, type_in, SpellsType, Part, Is, Comma, ◌⨾◌, Maybe, fault, unexpected, misplaced_word, left_out, name_within, type_at, maybe_type, line_end, Token, Line, Register, Word, Number, Mark, Bad, Excess, EndsLine, name_within-of, type_in-is, RawNode, SpellsWholeTerm, leaf, mark_at, term_at, loosest, spells_some, term_at-of, Half, Source, Target, RawStatement, RawOp, Binary, Unary, Select, Convert, Freeze, Copy, RawOperand, RawArgument, Operation, SpellsArgument, SpellsOperand, SpellsPair, SpellsTruth, SpellsTo, SpellsOp, source_word, term_argument_at, argument_at, typed_at, to_at, next_flag, flags_at, pair_at, binary_at, pred_at, compare_at, is_truth_next, truth_at, unary_at, select_at, convert_at, freeze_at, copy_at, operation_at, op_at, statement_at, argument_of, is_known, is_apart, token_with, opcode_token, operation_word, operation_in, is_truth_flag, source_word_in, flags-more, flags-again, flags_done, IsOpcode, operation_in-is, truth_flag-is, truth_flag-of, source_word_in-is, type_is_no_flag, type_is_no_truth_flag, BeginsOperand, argument_begins, Fitting, IsFlagWord, AreFlagWords, of_instruction, of_intrinsic, RepeatsFlag, NounFits, Version, Limits}
use Rattle.ops.specs.declared.opcode.Opcode.{Opcode}
use Rattle.ops.specs.declared.opcode.Unary.{Unary as Intrinsic}
use Rattle.rule_tokens.specs.Tokens.{Opcode as OpcodeToken}
use Rattle.rule_terms.specs.declared.place.TermPlace.TheVariants.{Constant}
use Rattle.rule_terms.specs.declared.raw.RawNode.TheVariants as raw_nodes
use Rattle.rule_viable_prefixes.proofs.Parentheses.{loosened}
use Rattle.rule_parse.specs.declared.raw.RawOp.TheVariants.{Compare}
use Rattle.rule_parse.specs.declared.raw.RawArgument.TheVariants as arguments
use Rattle.rule_parse.specs.declared.word.Operation.TheVariants as operations
use Rattle.rule_parse.specs.RuleReaders.{operand_at}
use Rattle.rule_viable_prefixes.specs.Misfits as kinds
use Rattle.rule_viable_prefixes.proofs.Reasons as reasons
use Rattle.rule_viable_prefixes.proofs.Reasons.{IsTooMany, kind_at, IsMisfit, itself, read_on}
use Rattle.rule_viable_prefixes.proofs.Nouns.{no_flag_in, no_truth_in, not_to, constant_noun, noun_other, source_other, to_other}
use Rattle.rule_viable_prefixes.proofs.Outcomes.{akin, alike_itself, IsOwn, Inline, inline_none, inline_token, repeats_behind, Lack, Akin, same_next, noun_next, ended_next, NoNoun, IsErr, same_as, Takes, Alike, same, ended, Sample, pair, bare, Reader, IsErrOn, Outcome, Good, then, refused_here, passed, took, led, alike_as, widen, Branch, takes, refuses, by_token, widened, then_done, OutcomeBy, then_by, Parts}
use Rattle.rule_viable_prefixes.proofs.Tolds.{says_word, says_syntax, says_too_many, says_misplaced, says_unexpected, says_left_out, SaysFirst}
use Rattle.rule_viable_prefixes.proofs.FlagRuns.{NoFlag, NoFlagLast, IsNew, new_behind, last_both}
use Rattle.rule_viable_prefixes.proofs.Parts.{Spelled, then_seq, ends_alike, ends_akin, refused_token, then_end, IsType, type_good}
use Rattle.rule_viable_prefixes.proofs.Terms.{Named, is_short, is_long, named, mark_good, Term, term_good}
use Rattle.rule_viable_prefixes.proofs.Roomy.{roomy}

module _ (spare_bytes deepest spare_statements : ℕ) (version : Version) where
  abbrev limits : Limits
  limits = roomy spare_bytes deepest spare_statements

  -- ---- what spells an operand, whatever its value

  abbrev pub IsArgument : Half → Part
  IsArgument half own = (a : RawArgument) × SpellsArgument limits half a own

  abbrev pub IsOperand : Half → Part
  IsOperand half own = (a : RawOperand) × SpellsOperand limits half a own

  abbrev IsPair : Half → Part
  IsPair half own = (a b : RawOperand) × SpellsPair limits half a b own

  abbrev pub IsOp : Half → Part
  IsOp half own = (op : RawOp) × SpellsOp limits version half op own

  -- ---- operands

  term_argument : (nodes : List RawNode) (own : List Token) → SpellsWholeTerm limits Constant limits.nested nodes own → IsArgument Target own
  unfolding argument_of
  term_argument (raw_nodes.Literal z ∷ []) own is = (arguments.Literal z, (raw_nodes.Literal z ∷ [], is, refl))
  term_argument (raw_nodes.Constant name ∷ []) own is = (arguments.Constant name, (raw_nodes.Constant name ∷ [], is, refl))
  term_argument nodes own is = (arguments.Term nodes, (nodes, is, refl))

  term_argument_good : (line : ℕ) → Good limits (pair limits) (term_argument_at limits line) (Spelled limits (IsArgument Target)) line
  term_argument_good line = then_done limits {s = (pair limits)} {L = Term spare_bytes deepest spare_statements Constant limits.nested loosest} argument_of (λ term. Ok (argument_of term.0, term.1)) (λ x rest. refl) (λ x own is. let t = is 0 in term_argument t.0 own t.1) (term_good spare_bytes deepest spare_statements Constant limits.nested line)

  undef_sample : (half : Half) → IsArgument half (Word (codes "undef") ∷ [])
  undef_sample half = (arguments.Undef, refl)

  -- a register with a name that is too long
  long_register : (half : Half) (name : List ℕ) → limits.name_bytes < length name → IsTooMany limits 0 (Takes limits (Spelled limits (IsArgument half) {A = RawArgument}) []) (Register name)
  long_register half name long = reasons.register name (codes "a", long, omega arith, tt, tt, (arguments.Register (codes "a"), [], (arguments.Register (codes "a"), (omega arith, refl))))

  source_word_branch : (line : ℕ) (word : List ℕ) → Branch limits (pair limits) (argument_at limits Source line) (Spelled limits (IsArgument Source)) line (Word word)
  unfolding argument_at source_word is_constant
  source_word_branch line word = by (is_constant word) refl
    where
      other : (found : Option RawArgument) → is_constant word ≡ false → source_word_in word ≡ found → Branch limits (pair limits) (argument_at limits Source line) (Spelled limits (IsArgument Source)) line (Word word)
      other (Some value) c f = takes value (source_other word value f) (value, source_word_in-is limits word value f) (λ more. rw (c, f) refl)
      other None c f = refuses (λ more. (misplaced_word line word, rw (c, f) refl, refl, says_misplaced limits (codes "C", kinds.constant refl, (arguments.Constant (codes "C"), [], (arguments.Constant (codes "C"), (refl, omega arith, refl)))) line word more))

      constant : is_constant word ≡ true → Named limits line word → Branch limits (pair limits) (argument_at limits Source line) (Spelled limits (IsArgument Source)) line (Word word)
      constant c (is_short le n) = takes (arguments.Constant word) (noun_other word (kinds.constant c)) (arguments.Constant word, (c, le, refl)) (λ more. rw (c, n) refl)
      constant c (is_long long n) =
          refuses (λ more. (fault line TooMany, rw (c, n) refl, refl, says_too_many limits (Word word) more (reasons.constant word (codes "C", long, omega arith, c, refl, (arguments.Constant (codes "C"), [], (arguments.Constant (codes "C"), (refl, omega arith, refl)))))))

      by : (c : Bool) → is_constant word ≡ c → Branch limits (pair limits) (argument_at limits Source line) (Spelled limits (IsArgument Source)) line (Word word)
      by true c = constant c (named limits line word)
      by false c = other (source_word_in word) c refl

  source_branch : (line : ℕ) (token : Token) → Branch limits (pair limits) (argument_at limits Source line) (Spelled limits (IsArgument Source)) line token
  unfolding argument_at
  source_branch line (Register name) = by (named limits line name)
    where
      by : Named limits line name → Branch limits (pair limits) (argument_at limits Source line) (Spelled limits (IsArgument Source)) line (Register name)
      by (is_short le n) = takes (arguments.Register name) tt (arguments.Register name, (le, refl)) (λ more. rw n refl)
      by (is_long long n) = refuses (λ more. (fault line TooMany, rw n refl, refl, says_too_many limits (Register name) more (long_register Source name long)))
  source_branch line (Number text) = takes (arguments.Literal (literal_value text)) tt (arguments.Literal (literal_value text), (text, refl, refl)) (λ more. refl)
  source_branch line (Word word) = source_word_branch line word
  source_branch line token = refuses (λ more. (unexpected line (token ∷ more), refl, refl, says_unexpected limits line token more (λ word is. absurd cc)))

  -- tokens that another parser reads in the same way
  same_reading : {X : Type 0} (R S : Reader limits X) (token : Token) (rest : List Token) → (EndsLine (token ∷ rest) → ⊥) → ((more : List Token) → R (token ∷ more) ≡ S (token ∷ more)) → (more : List Token) → Alike (token ∷ rest) more → R more ≡ S more
  same_reading R S token rest going h more (same t a b) = h b
  same_reading R S token rest going h more (ended a b p q) = absurd (going p)

  same_at_end : {X : Type 0} (R S : Reader limits X) → R [] ≡ S [] → ((number : ℕ) (more : List Token) → R (Line number ∷ more) ≡ S (Line number ∷ more)) → (tokens more : List Token) → EndsLine tokens → Alike tokens more → R more ≡ S more
  same_at_end R S none new tokens more ends alike = by more (ends_alike limits tokens more alike ends)
    where
      by : (more : List Token) → EndsLine more → R more ≡ S more
      by [] ends = none
      by (Line number ∷ more) ends = new number more
      by more ends = absurd ends

  no_term : 1 ≤ 0 → ⊥
  no_term some = omega arith

  some_argument : (half : Half) → IsArgument half [] → ⊥
  some_argument Source (arguments.Register name, (le, is)) = absurd cc
  some_argument Source (arguments.Undef, is) = absurd cc
  some_argument Source (arguments.Literal z, (text, value, is)) = absurd cc
  some_argument Source (arguments.Constant name, (c, le, is)) = absurd cc
  some_argument Source (arguments.Truth truth, is) = absurd cc
  some_argument Source (arguments.Term nodes, is) = absurd is
  some_argument Target (arguments.Register name, (le, is)) = absurd cc
  some_argument Target (arguments.Undef, is) = absurd cc
  some_argument Target (arguments.Truth truth, is) = absurd is
  some_argument Target (arguments.Literal z, (nodes, is, whole)) = no_term (spells_some limits is)
  some_argument Target (arguments.Constant name, (nodes, is, whole)) = no_term (spells_some limits is)
  some_argument Target (arguments.Term nodes, (others, is, whole)) = no_term (spells_some limits is)

  constant_is : IsTrue (is_constant (codes "C"))
  unfolding is_constant
  constant_is = refl

  -- a constant is read
  ok_no_err : {X : Type 0} (r : Result X RuleFault) (x : X) → r ≡ Ok x → IsErr limits r → ⊥
  ok_no_err r x p (e, q) = let both = sym p ∙ q in absurd cc

  term_reads : (line : ℕ) → NoNoun limits (term_argument_at limits line) [] → ⊥
  unfolding is_constant
  term_reads line n =
      let leaf_ : SpellsWholeTerm limits Constant limits.nested (raw_nodes.Constant (codes "C") ∷ []) (Word (codes "C") ∷ []) = loosened spare_bytes deepest spare_statements limits.nested 0 (raw_nodes.Constant (codes "C") ∷ []) (Word (codes "C") ∷ []) (leaf (raw_nodes.Constant (codes "C")) (Word (codes "C") ∷ []) (refl, omega arith, refl)) in
      let read : term_at limits Constant limits.nested line (Word (codes "C") ∷ []) ≡ Ok (raw_nodes.Constant (codes "C") ∷ [], []) = term_at-of limits Constant limits.nested line (raw_nodes.Constant (codes "C") ∷ []) (Word (codes "C") ∷ []) [] leaf_ tt in
      let whole : term_argument_at limits line (Word (codes "C") ∷ []) ≡ Ok (argument_of (raw_nodes.Constant (codes "C") ∷ []), []) = rw read refl in
      ok_no_err (term_argument_at limits line (Word (codes "C") ∷ [])) _ whole (n (codes "C") constant_noun [])

  as_term : (line : ℕ) (tokens : List Token) → ((more : List Token) → Alike tokens more → argument_at limits Target line more ≡ term_argument_at limits line more) → Outcome limits (pair limits) (term_argument_at limits line) (Spelled limits (IsArgument Target)) line tokens (term_argument_at limits line tokens)
      → Outcome limits (pair limits) (argument_at limits Target line) (Spelled limits (IsArgument Target)) line tokens (argument_at limits Target line tokens)
  as_term line tokens h o = alike_as limits (pair limits) (argument_at limits Target line) (term_argument_at limits line) (Spelled limits (IsArgument Target)) line tokens (λ x is. some_argument Target is) (term_reads line) h o

  argument_reads : (half : Half) (line : ℕ) (written : Option ℕ) → NoNoun limits (typed_at limits half line written) [] → ⊥
  unfolding typed_at argument_at source_word is_constant
  argument_reads Source line written n = ok_no_err (typed_at limits Source line written (Word (codes "C") ∷ [])) (record { written = written; value = arguments.Constant (codes "C") }, []) (rw (name_within-of limits line (codes "C") (omega arith)) refl) (n (codes "C") constant_noun [])
  argument_reads Target line written n = term_reads line (λ noun is more. by noun more (n noun is more))
    where
      made : RawArgument × List Token → Result (RawOperand × List Token) RuleFault
      made value = Ok (record { written = written; value = value.0 }, value.1)

      by : (noun : List ℕ) (more : List Token) → IsErr limits (typed_at limits Target line written (Word noun ∷ more)) → IsErr limits (term_argument_at limits line (Word noun ∷ more))
      by noun more (e, is) = undef (bytes_eq noun (codes "undef")) refl
        where
          undef : (b : Bool) → bytes_eq noun (codes "undef") ≡ b → IsErr limits (term_argument_at limits line (Word noun ∷ more))
          undef true h = let read : typed_at limits Target line written (Word noun ∷ more) ≡ Ok (record { written = written; value = arguments.Undef }, more) = rw h refl in let both = sym read ∙ is in absurd cc
          undef false h =
              let same_read : typed_at limits Target line written (Word noun ∷ more) ≡ (term_argument_at limits line (Word noun ∷ more) >>= made) = rw h refl in
              err (term_argument_at limits line (Word noun ∷ more)) (sym same_read ∙ is)
            where
              err : (r : Result (RawArgument × List Token) RuleFault) → (r >>= made) ≡ Err e → IsErr limits r
              err (Ok x) q = absurd cc
              err (Err f) q = (f, refl)

  target_outcome : (line : ℕ) (tokens : List Token) → Outcome limits (pair limits) (argument_at limits Target line) (Spelled limits (IsArgument Target)) line tokens (argument_at limits Target line tokens)
  unfolding argument_at
  target_outcome line (Register name ∷ rest) = by (named limits line name)
    where
      by : Named limits line name → Outcome limits (pair limits) (argument_at limits Target line) (Spelled limits (IsArgument Target)) line (Register name ∷ rest) (argument_at limits Target line (Register name ∷ rest))
      by (is_short le n) = took limits (pair limits) (argument_at limits Target line) (Spelled limits (IsArgument Target)) line (Register name) rest (arguments.Register name) tt (arguments.Register name, (le, refl)) (λ more. rw n refl)
      by (is_long long n) = refused_token limits (pair limits) (argument_at limits Target line) (Spelled limits (IsArgument Target)) line (Register name) rest (arguments.Undef, Word (codes "undef") ∷ [], undef_sample Target) (λ p. p)
          (λ more. (fault line TooMany, rw n refl, refl, says_too_many limits (Register name) more (long_register Target name long)))
  target_outcome line (Word word ∷ rest) = by (bytes_eq word (codes "undef")) refl
    where
      by : (b : Bool) → bytes_eq word (codes "undef") ≡ b → Outcome limits (pair limits) (argument_at limits Target line) (Spelled limits (IsArgument Target)) line (Word word ∷ rest) (argument_at limits Target line (Word word ∷ rest))
      by true h = took limits (pair limits) (argument_at limits Target line) (Spelled limits (IsArgument Target)) line (Word word) rest arguments.Undef (noun_other word (kinds.undef (same_word word (codes "undef") h))) (arguments.Undef, ap (λ (w : List ℕ). Word w ∷ []) (same_word word (codes "undef") h)) (λ more. rw h refl)
      by false h = as_term line (Word word ∷ rest) (same_reading (argument_at limits Target line) (term_argument_at limits line) (Word word) rest (λ p. p) (λ more. rw h refl)) ((term_argument_good line).outcome (Word word ∷ rest))
  target_outcome line [] = as_term line [] (λ more alike. same_at_end (argument_at limits Target line) (term_argument_at limits line) refl (λ number m. refl) [] more tt alike) ((term_argument_good line).outcome [])
  target_outcome line (Line number ∷ rest) = as_term line (Line number ∷ rest) (λ more alike. same_at_end (argument_at limits Target line) (term_argument_at limits line) refl (λ number m. refl) (Line number ∷ rest) more tt alike) ((term_argument_good line).outcome (Line number ∷ rest))
  target_outcome line (token ∷ rest) = as_term line (token ∷ rest) (same_reading (argument_at limits Target line) (term_argument_at limits line) token rest (λ p. p) (λ more. refl)) ((term_argument_good line).outcome (token ∷ rest))

  argument_good : (half : Half) (line : ℕ) → Good limits (pair limits) (argument_at limits half line) (Spelled limits (IsArgument half)) line
  unfolding argument_at
  argument_good Source line = by_token limits (arguments.Undef, Word (codes "undef") ∷ [], undef_sample Source) (source_branch line) (fault line Syntax, refl, refl, refl)
  argument_good Target line = record { sample = (arguments.Undef, Word (codes "undef") ∷ [], undef_sample Target); outcome = target_outcome line }

  typed_good : (half : Half) (line : ℕ) (written : Option ℕ) → Good limits (pair limits) (typed_at limits half line written) (Spelled limits (IsArgument half)) line
  unfolding typed_at
  typed_good half line written = then_done limits {s = (pair limits)} {L = Spelled limits (IsArgument half)} (λ value. record { written = written; value = value }) (λ value. Ok (record { written = written; value = value.0 }, value.1)) (λ x rest. refl) (λ x own is. is) (argument_good half line)

  typed_operand : (half : Half) (word : List ℕ) (width : ℕ) (own : List Token) → type_in word ≡ Some width → IsArgument half own → IsOperand half (Word word ∷ own)
  typed_operand half word width own t (a, is) = (record { written = Some width; value = a }, (Word word ∷ [], own, (word, type_in-is word width t, refl), is, refl))

  untyped_operand : (half : Half) (own : List Token) → IsArgument half own → IsOperand half own
  untyped_operand half own (a, is) = (record { written = None; value = a }, ([], own, refl, is, refl))

  untyped_outcome : (half : Half) (line : ℕ) (tokens : List Token) → Outcome limits (pair limits) (typed_at limits half line None) (Spelled limits (IsOperand half)) line tokens (typed_at limits half line None tokens)
  untyped_outcome half line tokens = widen limits (pair limits) (typed_at limits half line None) (Spelled limits (IsArgument half)) (Spelled limits (IsOperand half)) line tokens (λ x own is. untyped_operand half own is) (typed_at limits half line None tokens) ((typed_good half line None).outcome tokens)

  some_operand : (half : Half) → IsOperand half [] → ⊥
  some_operand half (a, (front, back, type, is, whole)) = none back (nothing_behind front back (sym whole)) is
    where
      nothing_behind : (front back : List Token) → front ++ back ≡ [] → back ≡ []
      nothing_behind [] back e = e
      nothing_behind (t ∷ front) back e = absurd cc

      none : (back : List Token) → back ≡ [] → SpellsArgument limits half a.value back → ⊥
      none back e is = some_argument half (a.value, subst (SpellsArgument limits half a.value) e is)

  as_untyped : (half : Half) (line : ℕ) (tokens : List Token) → ((more : List Token) → Alike tokens more → operand_at limits half line more ≡ typed_at limits half line None more) → Outcome limits (pair limits) (typed_at limits half line None) (Spelled limits (IsOperand half)) line tokens (typed_at limits half line None tokens)
      → Outcome limits (pair limits) (operand_at limits half line) (Spelled limits (IsOperand half)) line tokens (operand_at limits half line tokens)
  as_untyped half line tokens h o = alike_as limits (pair limits) (operand_at limits half line) (typed_at limits half line None) (Spelled limits (IsOperand half)) line tokens (λ x is. some_operand half is) (argument_reads half line None) h o

  operand_outcome : (half : Half) (line : ℕ) (tokens : List Token) → Outcome limits (pair limits) (operand_at limits half line) (Spelled limits (IsOperand half)) line tokens (operand_at limits half line tokens)
  unfolding maybe_type
  operand_outcome half line (Word word ∷ rest) = by (type_in word) refl
    where
      by : (found : Option ℕ) → type_in word ≡ found → Outcome limits (pair limits) (operand_at limits half line) (Spelled limits (IsOperand half)) line (Word word ∷ rest) (operand_at limits half line (Word word ∷ rest))
      by (Some width) t = led limits (pair limits) (operand_at limits half line) (typed_at limits half line (Some width)) (Spelled limits (IsOperand half)) line (Word word) rest (noun_other word (kinds.type width (type_in-is word width t))) (λ more. rw t refl)
          (widen limits (pair limits) (typed_at limits half line (Some width)) (Spelled limits (IsArgument half)) (λ x own. IsOperand half (Word word ∷ own)) line rest (λ x own is. typed_operand half word width own t is) (typed_at limits half line (Some width) rest) ((typed_good half line (Some width)).outcome rest))
      by None t = as_untyped half line (Word word ∷ rest) (same_reading (operand_at limits half line) (typed_at limits half line None) (Word word) rest (λ p. p) (λ more. rw t refl)) (untyped_outcome half line (Word word ∷ rest))
  operand_outcome half line [] = as_untyped half line [] (λ more alike. same_at_end (operand_at limits half line) (typed_at limits half line None) refl (λ number m. refl) [] more tt alike) (untyped_outcome half line [])
  operand_outcome half line (Line number ∷ rest) = as_untyped half line (Line number ∷ rest) (λ more alike. same_at_end (operand_at limits half line) (typed_at limits half line None) refl (λ number m. refl) (Line number ∷ rest) more tt alike) (untyped_outcome half line (Line number ∷ rest))
  operand_outcome half line (token ∷ rest) = as_untyped half line (token ∷ rest) (same_reading (operand_at limits half line) (typed_at limits half line None) token rest (λ p. p) (λ more. refl)) (untyped_outcome half line (token ∷ rest))

  operand_sample : RawOperand
  operand_sample = record { written = None; value = arguments.Undef }

  operand_good : (half : Half) (line : ℕ) → Good limits (pair limits) (operand_at limits half line) (Spelled limits (IsOperand half)) line
  operand_good half line = record { sample = (operand_sample, Word (codes "undef") ∷ [], untyped_operand half (Word (codes "undef") ∷ []) (undef_sample half)); outcome = operand_outcome half line }

  -- ---- two operands

  comma_good : (line : ℕ) → Good limits (bare limits) (mark_at (codes ",") line) (Spelled limits Comma) line
  comma_good line = mark_good limits (codes ",") line

  pair_made : (half : Half) (own : List Token) → (IsOperand half ⨾ Comma ⨾ IsArgument half) own → IsPair half own
  pair_made half own (front, back, (a, is_a), (comma, rest, c, (b, is_b), whole), all) =
      (a, record { written = None; value = b }, (front, back, is_a, (comma, rest, c, (refl, is_b), whole), all))

  pair_good : (half : Half) (line : ℕ) → Good limits (pair limits) (pair_at limits half line) (Spelled limits (IsPair half)) line
  unfolding pair_at
  pair_good half line = widened limits (λ x own is. pair_made half own is)
      (then_seq limits {s = (pair limits)} {t = (pair limits)} _ (operand_good half line) (λ left.
      then_seq limits {s = (bare limits)} {t = (pair limits)} _ (comma_good line) (λ u.
      then_end limits _ (λ right. (left, right)) (λ right rest. refl) (typed_good half line None))))

  -- ---- flags

  abbrev Adds : Flags → Flags → Part
  Adds set before own = (written : List Flag) × (after : Flags) × AddsFlags set before written after × (own ≡ map (λ flag. Word (flag_keyword flag)) written)

  no_flag : (set : Flags) (tokens more : List Token) → Akin tokens more → next_flag set tokens ≡ None → next_flag set more ≡ None
  no_flag set tokens more (same_next (Word word) a b) none = none
  no_flag set tokens more (same_next token a b) none = refl
  no_flag set tokens more (noun_next word noun a b is) none = no_flag_in set noun is
  no_flag set tokens more (ended_next a [] p q) none = refl
  no_flag set tokens more (ended_next a (Line number ∷ b) p q) none = refl
  no_flag set tokens more (ended_next a b p q) none = absurd q

  none_added : (set : Flags) (before : Flags) → Adds set before []
  none_added set before = ([], before, refl, refl)

  -- ---- a repeated flag

  abbrev flag_tokens : List Flag → List Token
  flag_tokens flags = map (λ flag. Word (flag_keyword flag)) flags

  -- the flags of an instruction are read one by one
  flags_read : (set : Flags) (line : ℕ) (written : List Flag) (before after : Flags) (more : List Token) → AddsFlags set before written after → flags_at set line before (flag_tokens written ++ more) ≡ flags_at set line after more
  flags_read set line [] before after more adds = ap (λ (flags : Flags). flags_at set line flags more) adds
  flags_read set line (flag ∷ written) before after more (takes_, new, adds) =
      flags-more limits set line before flag (Word (flag_keyword flag) ∷ flag_tokens written ++ more) (flag_in-of set flag takes_) new ∙ flags_read set line written (with_flag before flag) after more adds

  one_more : (set : Flags) (written : List Flag) (before middle : Flags) (flag : Flag) → AddsFlags set before written middle → has_flag set flag ≡ true → has_flag middle flag ≡ false → AddsFlags set before (written ++ flag ∷ []) (with_flag middle flag)
  one_more set [] before middle flag adds own new =
      let first : has_flag before flag ≡ false = subst (λ (flags : Flags). has_flag flags flag ≡ false) (sym adds) new in
      (own, first, ap (λ (flags : Flags). with_flag flags flag) adds)
  one_more set (f ∷ written) before middle flag (takes_, new_, adds) own new = (takes_, new_, one_more set written (with_flag before f) middle flag adds own new)

  -- the words of flags
  flag_words : List Flag → List (List ℕ)
  flag_words flags = map flag_keyword flags

  flag_tokens-words : (flags : List Flag) → flag_tokens flags ≡ map (λ w. Word w) (flag_words flags)
  unfolding flag_words
  flag_tokens-words [] = refl
  flag_tokens-words (flag ∷ flags) = ap (λ (ts : List Token). Word (flag_keyword flag) ∷ ts) (flag_tokens-words flags)

  are_flag_words : (flags : List Flag) → AreFlagWords (flag_words flags)
  unfolding flag_words
  are_flag_words [] = tt
  are_flag_words (flag ∷ flags) = (of_instruction flag refl, are_flag_words flags)

  flags_inline : (written : List Flag) → Inline limits (flag_tokens written)
  flags_inline [] = inline_none limits
  flags_inline (flag ∷ written) = inline_token limits (Word (flag_keyword flag)) (flag_tokens written) tt (flags_inline written)

  -- of two flags, a new one that is there afterwards is the one that was added
  added_is : (before : Flags) (f flag : Flag) → has_flag before flag ≡ false → has_flag (with_flag before f) flag ≡ true → flag ≡ f
  added_is before Nuw Nuw new has = refl
  added_is before Nsw Nsw new has = refl
  added_is before Exact Exact new has = refl
  added_is before NNeg NNeg new has = refl
  added_is before Disjoint Disjoint new has = refl
  added_is before SameSign SameSign new has = refl
  added_is before f flag new has = let both = sym new ∙ has in absurd cc

  repeats : (set : Flags) (written : List Flag) (before after : Flags) (flag : Flag) → AddsFlags set before written after → has_flag before flag ≡ false → has_flag after flag ≡ true → RepeatsFlag (flag_tokens written) (flag_keyword flag)
  repeats set [] before after flag adds none has = let both = sym none ∙ (ap (λ (flags : Flags). has_flag flags flag) adds ∙ has) in absurd cc
  repeats set (f ∷ written) before after flag (takes_, new, adds) none has = by (has_flag (with_flag before f) flag) refl (λ h. repeats set written (with_flag before f) after flag adds h has)
    where
      by : (b : Bool) → has_flag (with_flag before f) flag ≡ b → (has_flag (with_flag before f) flag ≡ false → RepeatsFlag (flag_tokens written) (flag_keyword flag)) → RepeatsFlag (flag_tokens (f ∷ written)) (flag_keyword flag)
      by true h further =
          let same_flag : flag ≡ f = added_is before f flag none h in
          ([], flag_words written, (of_instruction flag refl, are_flag_words written), ap (λ (ts : List Token). Word (flag_keyword f) ∷ ts) (flag_tokens-words written) ∙ ap (λ (g : Flag). Word (flag_keyword g) ∷ map (λ w. Word w) (flag_words written)) (sym same_flag))
      by false h further = repeats_behind limits (Word (flag_keyword f) ∷ []) (flag_tokens written) (flag_tokens (f ∷ written)) (flag_keyword flag) refl (further h)

  has_none : (flag : Flag) → has_flag no_flags flag ≡ false
  has_none Nuw = refl
  has_none Nsw = refl
  has_none Exact = refl
  has_none NNeg = refl
  has_none Disjoint = refl
  has_none SameSign = refl

  -- flags that the instruction takes are read, and none of them is next
  abbrev OwnFlags : Flags → List Token → List Token → Type 0
  OwnFlags set own rest = Adds set no_flags own × (next_flag set rest ≡ None)

  abbrev FlagsAre : Flags → ℕ → List Token → Type 0
  FlagsAre set line tokens = OutcomeBy limits (OwnFlags set) (pair limits) (flags_at set line no_flags) (Spelled limits (Adds set no_flags)) line tokens (flags_at set line no_flags tokens)

  -- no other flag of the instruction fits behind these flags
  no_more_flags : (set : Flags) (line : ℕ) (written : List Flag) (before : Flags) (tokens : List Token) → AddsFlags set no_flags written before → next_flag set tokens ≡ None → FlagsAre set line (flag_tokens written ++ tokens)
  no_more_flags set line written before tokens adds none =
      subst (OutcomeBy limits (OwnFlags set) (pair limits) (flags_at set line no_flags) (Spelled limits (Adds set no_flags)) line (flag_tokens written ++ tokens)) (sym (kept tokens (akin (alike_itself tokens))))
      (record { value = before; own = flag_tokens written; rest = tokens; is_own = (written, before, adds, refl); inline = flags_inline written; there = refl; is = refl; kept = kept; apart = ((written, before, adds, refl), none) })
    where
      kept : (more : List Token) → Akin tokens more → flags_at set line no_flags (flag_tokens written ++ more) ≡ Ok (before, more)
      kept more alike = flags_read set line written no_flags before more adds ∙ flags_done limits set line before more (no_flag set tokens more alike none)

  -- nor does one of them once more
  flag_again : (set : Flags) (line : ℕ) (written : List Flag) (before : Flags) (flag : Flag) (word : List ℕ) (rest : List Token) → AddsFlags set no_flags written before → flag_in set word ≡ Some flag → has_flag before flag ≡ true → FlagsAre set line (flag_tokens written ++ Word word ∷ rest)
  flag_again set line written before flag word rest adds found has =
      subst (OutcomeBy limits (OwnFlags set) (pair limits) (flags_at set line no_flags) (Spelled limits (Adds set no_flags)) line (flag_tokens written ++ Word word ∷ rest)) (sym (again rest))
      (record {
        front = flag_tokens written;
        behind = Word word ∷ rest;
        there = refl;
        begins = (before, [], (written, before, adds, append-nil (flag_tokens written)));
        inline = flags_inline written;
        refused = λ more alike. refused more alike;
        here = refl;
        says = says_word limits word rest (inr (inl (subst (RepeatsFlag (flag_tokens written)) (sym (flag_in-is set word flag found).0) (repeats set written no_flags before flag adds (has_none flag) has))));
        new = λ left is. absurd cc;
      })
    where
      again : (more : List Token) → flags_at set line no_flags (flag_tokens written ++ Word word ∷ more) ≡ Err (fault line Syntax)
      again more = flags_read set line written no_flags before (Word word ∷ more) adds ∙ flags-again limits set line before flag (Word word ∷ more) found has

      refused : (more : List Token) → Alike (Word word ∷ rest) more → IsErr limits (flags_at set line no_flags (flag_tokens written ++ more))
      refused more (same t a b) = (fault line Syntax, again b)
      refused more (ended a b p q) = absurd p

  word_behind : (set : Flags) (line : ℕ) (written : List Flag) (before : Flags) (word : List ℕ) (rest : List Token) → AddsFlags set no_flags written before
      → ((more : List Flag) (after : Flags) → AddsFlags set no_flags more after → FlagsAre set line (flag_tokens more ++ rest)) → (found : Option Flag) → flag_in set word ≡ found → FlagsAre set line (flag_tokens written ++ Word word ∷ rest)
  word_behind set line written before word rest adds further None f = no_more_flags set line written before (Word word ∷ rest) adds f
  word_behind set line written before word rest adds further (Some flag) f = by (has_flag before flag) refl
    where
      by : (b : Bool) → has_flag before flag ≡ b → FlagsAre set line (flag_tokens written ++ Word word ∷ rest)
      by true h = flag_again set line written before flag word rest adds f h
      by false h =
          let is = flag_in-is set word flag f in
          let whole : flag_tokens (written ++ flag ∷ []) ++ rest ≡ flag_tokens written ++ Word word ∷ rest =
          ap (λ (ts : List Token). ts ++ rest) (map-append (λ (g : Flag). Word (flag_keyword g)) written (flag ∷ [])) ∙ append_assoc (flag_tokens written) (Word (flag_keyword flag) ∷ []) rest ∙ ap (λ (w : List ℕ). flag_tokens written ++ Word w ∷ rest) (sym is.0) in
          subst (FlagsAre set line) whole (further (written ++ flag ∷ []) (with_flag before flag) (one_more set written no_flags before flag adds is.1 h))

  flags_behind : (set : Flags) (line : ℕ) (tokens : List Token) (written : List Flag) (before : Flags) → AddsFlags set no_flags written before → FlagsAre set line (flag_tokens written ++ tokens)
  flags_behind set line [] written before adds = no_more_flags set line written before [] adds refl
  flags_behind set line (Word word ∷ rest) written before adds = word_behind set line written before word rest adds (λ more after all. flags_behind set line rest more after all) (flag_in set word) refl
  flags_behind set line (token ∷ rest) written before adds = no_more_flags set line written before (token ∷ rest) adds refl

  -- ---- what stands behind flags

  -- a flag that is there already is one of the instruction
  repeated_own : (set : Flags) (written : List Flag) (before after : Flags) (left : List ℕ) → AddsFlags set before written after → RepeatsFlag (flag_tokens written) left → flag_in set left ≡ None → ⊥
  repeated_own set [] before after left adds ([], words, flags, whole) none = cc
  repeated_own set [] before after left adds (t ∷ first, words, flags, whole) none = cc
  repeated_own set (f ∷ written) before after left (takes_, new, adds) ([], words, flags, whole) none =
      let same_flag : flag_keyword f ≡ left = cc in
      let both = sym (flag_in-of set f takes_) ∙ ap (flag_in set) same_flag ∙ none in absurd cc
  repeated_own set (f ∷ written) before after left (takes_, new, adds) (t ∷ first, words, flags, whole) none = repeated_own set written (with_flag before f) after left adds (first, words, flags, cc) none

  -- the word that is left out is the next token
  word_left : (before : ℕ) (fits : Fitting) (none : List ℕ → Type 0) (tokens : List Token) (kind : RuleFaultKind) (left : List ℕ) → SaysFirst limits before fits none tokens kind → kind ≡ LeftOut left → (more : List Token) × (tokens ≡ Word left ∷ more)
  word_left before fits none [] kind left says is = let both = sym says ∙ is in absurd cc
  word_left before fits none (Excess ∷ tokens) kind left told is = let both = sym (told.excess refl) ∙ is in absurd cc
  word_left before fits none (token ∷ tokens) kind left told is = (tokens, ap (λ (t : Token). t ∷ tokens) (of_word (subst (IsMisfit limits before fits token tokens) is (told.misfit (λ e. cc)))))
    where
      first_kind : (ts : List Token) → LeftOut left ≡ kind_at ts → ⊥
      first_kind [] e = cc
      first_kind (Bad ∷ ts) e = cc
      first_kind (t ∷ ts) e = cc

      of_word : IsMisfit limits before fits token tokens (LeftOut left) → token ≡ Word left
      of_word (itself says) = says.0
      of_word (read_on (applied, deep, none, e)) = absurd (first_kind tokens e)

  begins_other : (set : Flags) (own rest : List Token) → BeginsOperand limits own → next_flag set (own ++ rest) ≡ None
  begins_other set (Register name ∷ ts) rest begins = refl
  begins_other set (Number text ∷ ts) rest begins = refl
  begins_other set (Word word ∷ ts) rest begins = begins.no_flag set
  begins_other set (Mark mark ∷ ts) rest begins = refl
  begins_other set tokens rest begins = absurd begins

  operand_begins : (set : Flags) (half : Half) (a : RawOperand) (own rest : List Token) → SpellsOperand limits half a own → next_flag set (own ++ rest) ≡ None
  operand_begins set half a own rest (front, back, type, argument, whole) = rw (whole, append_assoc front back rest) (by a.written type)
    where
      by : (written : Option ℕ) → Maybe SpellsType written front → next_flag set (front ++ (back ++ rest)) ≡ None
      by None is = rw is (begins_other set back rest (argument_begins limits half a.value back argument))
      by (Some width) (word, type_, is) = rw is (type_is_no_flag limits set word width type_)

  begins_no_truth : (op : Intrinsic) (own rest : List Token) → BeginsOperand limits own → is_truth_next op (own ++ rest) ≡ false
  begins_no_truth op (Register name ∷ ts) rest begins = refl
  begins_no_truth op (Number text ∷ ts) rest begins = refl
  begins_no_truth op (Word word ∷ ts) rest begins = begins.no_truth op
  begins_no_truth op (Mark mark ∷ ts) rest begins = refl
  begins_no_truth op tokens rest begins = absurd begins

  operand_no_truth : (op : Intrinsic) (half : Half) (a : RawOperand) (own rest : List Token) → SpellsOperand limits half a own → is_truth_next op (own ++ rest) ≡ false
  operand_no_truth op half a own rest (front, back, type, argument, whole) = rw (whole, append_assoc front back rest) (by a.written type)
    where
      by : (written : Option ℕ) → Maybe SpellsType written front → is_truth_next op (front ++ (back ++ rest)) ≡ false
      by None is = rw is (begins_no_truth op back rest (argument_begins limits half a.value back argument))
      by (Some width) (word, type_, is) = rw is (type_is_no_truth_flag limits op word width type_)

  -- an operand is behind the flags, and it begins with no flag
  some_behind : (half : Half) (a : RawOperand) (front back : List Token) → SpellsOperand limits half a front → [] ≡ front ++ back → ⊥
  some_behind half a [] back is none = some_operand half (a, is)
  some_behind half a (t ∷ front) back is none = absurd cc

  has_own : (flag : Flag) → has_flag (with_flag no_flags flag) flag ≡ true
  has_own Nuw = refl
  has_own Nsw = refl
  has_own Exact = refl
  has_own NNeg = refl
  has_own Disjoint = refl
  has_own SameSign = refl

  operand_other : (half : Half) (a : RawOperand) (front back : List Token) (token : Token) (tokens : List Token) → SpellsOperand limits half a front → token ∷ tokens ≡ front ++ back → NoFlag token
  operand_other half a front back token tokens is whole word (of_instruction flag word_is) equal =
      let set = with_flag no_flags flag in
      let none : next_flag set (Word (flag_keyword flag) ∷ tokens) ≡ None = ap (λ (w : List ℕ). next_flag set (Word w ∷ tokens)) (sym word_is) ∙ ap (λ (t : Token). next_flag set (t ∷ tokens)) (sym equal) ∙ ap (next_flag set) whole ∙ operand_begins set half a front back is in
      let both = sym (flag_in-of set flag (has_own flag)) ∙ none in absurd cc
  operand_other half a front back token tokens is whole word (of_intrinsic op flag) equal =
      let none : is_truth_flag op word ≡ false = ap (λ (t : Token). is_truth_next op (t ∷ tokens)) (sym equal) ∙ ap (is_truth_next op) whole ∙ operand_no_truth op half a front back is in
      let both = sym (truth_flag-of limits op word flag) ∙ none in absurd cc

  some_pair : (half : Half) → IsPair half [] → ⊥
  some_pair half (a, b, (front, back, operand, others, whole)) = some_behind half a front back operand whole

  pair_other : (half : Half) (token : Token) (tokens : List Token) → IsPair half (token ∷ tokens) → NoFlag token
  pair_other half token tokens (a, b, (front, back, operand, others, whole)) = operand_other half a front back token tokens operand whole

  -- what is read behind flags begins with a token that is no flag
  flags_parts : {B Y : Type 0} (set : Flags) (M : Part) → (M [] → ⊥) → ((token : Token) (tokens : List Token) → M (token ∷ tokens) → NoFlag token)
      → (S : Flags × List Token → Result Y RuleFault) (line : ℕ) → Parts limits {A = Flags} {B = B} (OwnFlags set) (pair limits) S (λ x. Spelled limits M) line
  flags_parts {B} {Y} set M some other S line = record {
    new = λ own rest c x found p. new _ _ _ own rest c found.kind p.front p.behind p.there p.begins.1 p.begins.2 p.says p.new;
    last = λ own rest c x y more is last_. last own more is last_;
  }
    where
      new : (before : ℕ) (fits : Fitting) (none : List ℕ → Type 0) (own rest : List Token) → OwnFlags set own rest → (kind : RuleFaultKind) (front behind : List Token) → rest ≡ front ++ behind → (more : List Token) → M (front ++ more) → SaysFirst limits before fits none behind kind → IsNew front kind → IsNew (own ++ front) kind
      new before fits none own rest c kind [] behind there more is says new_ = λ left left_out_ again.
          let w = word_left before fits none behind kind left says left_out_ in
          let flags = c.0 in
          repeated_own set flags.0 no_flags flags.1 left flags.2 (subst (λ (ts : List Token). RepeatsFlag ts left) (append-nil own ∙ flags.3) again)
          (subst (λ (ts : List Token). next_flag set ts ≡ None) (there ∙ w.1) c.1)
      new before fits none own rest c kind (u ∷ front) behind there more is says new_ = new_behind own (u ∷ front) kind (inr (other u (front ++ more) is)) new_

      last : (own more : List Token) → M more → NoFlagLast more → NoFlagLast (own ++ more)
      last own [] is last_ = absurd (some is)
      last own (u ∷ more) is last_ = last_both own u more last_

  -- flags, and another parser behind them
  flags_good : (set : Flags) (M : Part) → (M [] → ⊥) → ((token : Token) (tokens : List Token) → M (token ∷ tokens) → NoFlag token) → (line : ℕ) (S : Flags × List Token → Result (RawOp × List Token) RuleFault)
      → ((flags : Flags) → Good limits {A = RawOp} (pair limits) (λ ts. S (flags, ts)) (Spelled limits M) line) → Good limits {A = RawOp} (pair limits) (λ ts. flags_at set line no_flags ts >>= S) (Spelled limits (Adds set no_flags ⨾ M)) line
  flags_good set M some other line S behind = record {
    sample = let s = (behind no_flags).sample in (s.0, s.1, ([], s.1, none_added set no_flags, s.2, refl));
    outcome = λ tokens.
        then_by limits (OwnFlags set) (pair limits) (pair limits) (flags_at set line no_flags) S (Spelled limits (Adds set no_flags)) (λ x. Spelled limits M) (Spelled limits (Adds set no_flags ⨾ M)) line tokens (λ x y front back p q. (front, back, p, q, refl)) (λ x own is. (behind x).sample)
        (flags_parts {B = RawOp} set M some other S line) (flags_behind set line tokens [] no_flags refl) (λ x rest e. (behind x).outcome rest);
  }

  -- ---- what a statement computes

  -- behind the opcode of an operation of the version
  abbrev IsOpBehind : Half → Operation → Part
  IsOpBehind half operation own = IsOp half (opcode_token operation ∷ own)

  abbrev OpGood : Half → ℕ → Operation → Type 0
  OpGood half line operation = is_known operation version ≡ true → Good limits (pair limits) (operation_at limits half line operation) (λ x own. IsOpBehind half operation own) line

  binary_made : (half : Half) (op : Opcode) (own : List Token) → is_known (operations.Binary op) version ≡ true → (Adds (flags_of op) no_flags ⨾ IsPair half) own → IsOpBehind half (operations.Binary op) own
  binary_made half op own known (front, back, (written, after, adds, flags), (a, b, is), whole) =
      (Binary op after a b, (opcode_token (operations.Binary op) ∷ [], own, (known, refl), (front, back, (written, adds, flags), is, whole), refl))

  binary_good : (half : Half) (line : ℕ) (op : Opcode) → OpGood half line (operations.Binary op)
  unfolding binary_at
  binary_good half line op known = widened limits {L = Spelled limits (Adds (flags_of op) no_flags ⨾ IsPair half)} (λ x own is. binary_made half op own known is)
      (flags_good (flags_of op) (IsPair half) (some_pair half) (pair_other half) line S behind)
    where
      S : Flags × List Token → Result (RawOp × List Token) RuleFault
      S flags = pair_at limits half line flags.1 >>= λ p. Ok (Binary op flags.0 p.0.0 p.0.1, p.1)

      behind : (flags : Flags) → Good limits {A = RawOp} (pair limits) (λ ts. S (flags, ts)) (Spelled limits (IsPair half)) line
      behind flags = then_done limits {s = (pair limits)} {L = Spelled limits (IsPair half)} (λ p. Binary op flags p.0 p.1) _ (λ x rest. refl) (λ x own is. is) (pair_good half line)

  abbrev IsPred : Part
  IsPred own = (pred : Pred) × Is (Word (predicate_keyword pred)) own

  pred_branch : (line : ℕ) (token : Token) → Branch limits (pair limits) (pred_at line) (Spelled limits IsPred) line token
  unfolding pred_at
  pred_branch line (Word word) = by (pred_in word) refl
    where
      by : (found : Option Pred) → pred_in word ≡ found → Branch limits (pair limits) (pred_at line) (Spelled limits IsPred) line (Word word)
      by (Some pred) f = takes pred (noun_other word (kinds.predicate pred (pred_in-is word pred f))) (pred, ap (λ (w : List ℕ). Word w ∷ []) (pred_in-is word pred f)) (λ more. rw f refl)
      by None f = refuses (λ more. (misplaced_word line word, rw f refl, refl, says_misplaced limits (predicate_keyword Eq, kinds.predicate Eq refl, (Eq, [], (Eq, refl))) line word more))
  pred_branch line token = refuses (λ more. (unexpected line (token ∷ more), refl, refl, says_unexpected limits line token more (λ word is. absurd cc)))

  pred_good : (line : ℕ) → Good limits (pair limits) (pred_at line) (Spelled limits IsPred) line
  unfolding pred_at
  pred_good line = by_token limits (Eq, Word (predicate_keyword Eq) ∷ [], (Eq, refl)) (pred_branch line) (fault line Syntax, refl, refl, refl)

  first_no : (token : Token) (front back : List Token) → front ≡ token ∷ [] → front ++ back ≡ [] → ⊥
  first_no token [] back is whole = absurd cc
  first_no token (t ∷ front) back is whole = absurd cc

  some_predicate : (half : Half) → (IsPred ⨾ IsPair half) [] → ⊥
  some_predicate half (front, back, (pred, p), others, whole) = first_no (Word (predicate_keyword pred)) front back p (sym whole)

  predicate_other : (half : Half) (token : Token) (tokens : List Token) → (IsPred ⨾ IsPair half) (token ∷ tokens) → NoFlag token
  predicate_other half token tokens (front, back, (pred, p), others, whole) word flag equal =
      let first : token ∷ tokens ≡ Word (predicate_keyword pred) ∷ back = whole ∙ ap (λ (ts : List Token). ts ++ back) p in
      let same_word_ : word ≡ predicate_keyword pred = cc in
      noun_other (predicate_keyword pred) (kinds.predicate pred refl) (subst IsFlagWord same_word_ flag)

  compare_made : (half : Half) (own : List Token) → (Adds flags_of_icmp no_flags ⨾ (IsPred ⨾ IsPair half)) own → IsOpBehind half operations.Compare own
  compare_made half own (front, back, (written, after, adds, flags), (first, others, (pred, p), (a, b, is), behind), whole) =
      let own_flags : AddsFlags flags_of_icmp no_flags written (icmp_flags after.samesign) = subst (λ (f : Flags). AddsFlags flags_of_icmp no_flags written f) (flags_are_icmp after (taken_flags flags_of_icmp written after adds)) adds in
      (Compare pred after.samesign a b, (opcode_token operations.Compare ∷ [], own, (refl, refl), (front, back, (written, own_flags, flags), (first, others, p, is, behind), whole), refl))

  compare_good : (half : Half) (line : ℕ) → OpGood half line operations.Compare
  unfolding compare_at
  compare_good half line known = widened limits {L = Spelled limits (Adds flags_of_icmp no_flags ⨾ (IsPred ⨾ IsPair half))} (λ x own is. compare_made half own is)
      (flags_good flags_of_icmp (IsPred ⨾ IsPair half) (some_predicate half) (predicate_other half) line S behind)
    where
      S : Flags × List Token → Result (RawOp × List Token) RuleFault
      S flags = pred_at line flags.1 >>= λ pred. (pair_at limits half line pred.1 >>= λ p. Ok (Compare pred.0 flags.0.samesign p.0.0 p.0.1, p.1))

      behind : (flags : Flags) → Good limits {A = RawOp} (pair limits) (λ ts. S (flags, ts)) (Spelled limits (IsPred ⨾ IsPair half)) line
      behind flags = then_seq limits {s = (pair limits)} {t = (pair limits)} _ (pred_good line) (λ pred. then_done limits {s = (pair limits)} {L = Spelled limits (IsPair half)} (λ p. Compare pred flags.samesign p.0 p.1) _ (λ x rest. refl) (λ x own is. is) (pair_good half line))

  select_made : (half : Half) (own : List Token) → (IsOperand half ⨾ Comma ⨾ IsOperand half ⨾ Comma ⨾ IsOperand half) own → IsOpBehind half operations.Select own
  select_made half own (f, b, (condition, is_c), (g, c, comma, (h, d, (first, is_first), (i, e, other, (second, is_second), w4), w3), w2), w1) =
      (Select condition first second, (opcode_token operations.Select ∷ [], own, (refl, refl), (f, b, is_c, (g, c, comma, (h, d, is_first, (i, e, other, is_second, w4), w3), w2), w1), refl))

  select_good : (half : Half) (line : ℕ) → OpGood half line operations.Select
  unfolding select_at
  select_good half line known = widened limits {L = Spelled limits (IsOperand half ⨾ Comma ⨾ IsOperand half ⨾ Comma ⨾ IsOperand half)} (λ x own is. select_made half own is)
      (then_seq limits {s = (pair limits)} {t = (pair limits)} _ (operand_good half line) (λ condition.
      then_seq limits {s = (bare limits)} {t = (pair limits)} _ (comma_good line) (λ u.
      then_seq limits {s = (pair limits)} {t = (pair limits)} _ (operand_good half line) (λ if_true.
      then_seq limits {s = (bare limits)} {t = (pair limits)} _ (comma_good line) (λ v.
      then_end limits _ (λ if_false. Select condition if_true if_false) (λ if_false rest. refl) (operand_good half line))))))

  -- ---- casts

  abbrev IsTo : Part
  IsTo own = (to : Option ℕ) × Maybe SpellsTo to own

  no_to : IsTo []
  no_to = (None, refl)

  to_ends : (line : ℕ) (more : List Token) → EndsLine more → to_at line more ≡ Ok (None, more)
  unfolding to_at
  to_ends line [] ends = refl
  to_ends line (Line number ∷ more) ends = refl
  to_ends line more ends = absurd ends

  type_end_good : (line : ℕ) → Good limits (pair limits) (λ ts. type_at line ts >>= λ width. (line_end line width.1 >>= λ behind. Ok (Some width.0, behind))) (Spelled limits (IsType limits)) line
  type_end_good line = then_end limits _ (λ width. Some width) (λ width rest. refl) (type_good limits line)

  to_outcome : (line : ℕ) (tokens : List Token) → Outcome limits (pair limits) (to_at line) (Spelled limits IsTo) line tokens (to_at line tokens)
  unfolding to_at
  to_outcome line [] = passed limits (pair limits) (to_at line) (Spelled limits IsTo) line [] None no_to (λ more alike. to_ends line more (ends_akin limits [] more alike tt))
  to_outcome line (Line number ∷ rest) = passed limits (pair limits) (to_at line) (Spelled limits IsTo) line (Line number ∷ rest) None no_to (λ more alike. to_ends line more (ends_akin limits (Line number ∷ rest) more alike tt))
  to_outcome line (Word word ∷ rest) = by (bytes_eq word (codes "to")) refl
    where
      made : (own : List Token) → word ≡ codes "to" → IsType limits own → IsTo (Word word ∷ own)
      made own is (width, type) = (Some width, (Word word ∷ [], own, ap (λ (w : List ℕ). Word w ∷ []) is, type, refl))

      by : (b : Bool) → bytes_eq word (codes "to") ≡ b → Outcome limits (pair limits) (to_at line) (Spelled limits IsTo) line (Word word ∷ rest) (to_at line (Word word ∷ rest))
      by true h = led limits (pair limits) (to_at line) (λ ts. type_at line ts >>= λ width. (line_end line width.1 >>= λ behind. Ok (Some width.0, behind))) (Spelled limits IsTo) line (Word word) rest (λ flag. to_other (subst IsFlagWord (same_word word (codes "to") h) flag)) (λ more. rw h refl)
          (widen limits (pair limits) (λ ts. type_at line ts >>= λ width. (line_end line width.1 >>= λ behind. Ok (Some width.0, behind))) (Spelled limits (IsType limits)) (λ x own. IsTo (Word word ∷ own)) line rest (λ x own is. made own (same_word word (codes "to") h) is) _ ((type_end_good line).outcome rest))
      by false h = refused_token limits (pair limits) (to_at line) (Spelled limits IsTo) line (Word word) rest (None, [], no_to) (λ p. p) (λ more. (fault line Syntax, rw h refl, refl, says_word limits word more (inr (inr (λ noun is others. (fault line Syntax, rw (not_to noun is) refl))))))
  to_outcome line (token ∷ rest) = refused_token limits (pair limits) (to_at line) (Spelled limits IsTo) line token rest (None, [], no_to) (λ p. p) (λ more. (unexpected line (token ∷ more), refl, refl, says_unexpected limits line token more (λ word is. absurd cc)))

  to_good : (line : ℕ) → Good limits (pair limits) (to_at line) (Spelled limits IsTo) line
  to_good line = record { sample = (None, [], no_to); outcome = to_outcome line }

  some_cast : (half : Half) → (IsOperand half ⨾ IsTo) [] → ⊥
  some_cast half (front, back, (a, is), others, whole) = some_behind half a front back is whole

  cast_other : (half : Half) (token : Token) (tokens : List Token) → (IsOperand half ⨾ IsTo) (token ∷ tokens) → NoFlag token
  cast_other half token tokens (front, back, (a, is), others, whole) = operand_other half a front back token tokens is whole

  convert_made : (half : Half) (cast : Cast) (own : List Token) → (Adds (flags_of_cast cast) no_flags ⨾ (IsOperand half ⨾ IsTo)) own → IsOpBehind half (operations.Convert cast) own
  convert_made half cast own (front, back, (written, after, adds, flags), (first, others, (a, is), (to, t), behind), whole) =
      (Convert cast after a to, (opcode_token (operations.Convert cast) ∷ [], own, (refl, refl), (front, back, (written, adds, flags), (first, others, is, t, behind), whole), refl))

  convert_good : (half : Half) (line : ℕ) (cast : Cast) → OpGood half line (operations.Convert cast)
  unfolding convert_at
  convert_good half line cast known = widened limits {L = Spelled limits (Adds (flags_of_cast cast) no_flags ⨾ (IsOperand half ⨾ IsTo))} (λ x own is. convert_made half cast own is)
      (flags_good (flags_of_cast cast) (IsOperand half ⨾ IsTo) (some_cast half) (cast_other half) line S behind)
    where
      S : Flags × List Token → Result (RawOp × List Token) RuleFault
      S flags = operand_at limits half line flags.1 >>= λ from. (to_at line from.1 >>= λ to. Ok (Convert cast flags.0 from.0 to.0, to.1))

      behind : (flags : Flags) → Good limits {A = RawOp} (pair limits) (λ ts. S (flags, ts)) (Spelled limits (IsOperand half ⨾ IsTo)) line
      behind flags = then_seq limits {s = (pair limits)} {t = (pair limits)} _ (operand_good half line) (λ from. then_done limits {s = (pair limits)} {L = Spelled limits IsTo} (λ to. Convert cast flags from to) _ (λ x rest. refl) (λ x own is. is) (to_good line))

  -- ---- operations

  copy_good : (line : ℕ) → Good limits (pair limits) (copy_at limits line) (Spelled limits (IsOp Target)) line
  unfolding copy_at
  copy_good line = widened limits {L = Spelled limits (IsOperand Target)} (λ x own is. (Copy is.0, is.1)) (then_end limits _ (λ operand. Copy operand) (λ operand rest. refl) (operand_good Target line))

  freeze_good : (half : Half) (line : ℕ) → OpGood half line operations.Freeze
  unfolding freeze_at
  freeze_good half line known =
      widened limits {L = Spelled limits (IsOperand half)} (λ x own is. (Freeze is.0, (opcode_token operations.Freeze ∷ [], own, (known, refl), is.1, refl)))
      (then_end limits _ (λ operand. Freeze operand) (λ operand rest. refl) (operand_good half line))

  -- ---- intrinsics

  abbrev IsTruth : Intrinsic → Part
  IsTruth op own = (truth : Bool) × SpellsTruth op truth own

  truth_none : (op : Intrinsic) → IsTruth op []
  truth_none op = (false, refl)

  no_truth : (op : Intrinsic) (tokens more : List Token) → Akin tokens more → is_truth_next op tokens ≡ false → is_truth_next op more ≡ false
  no_truth op tokens more (same_next (Word word) a b) none = none
  no_truth op tokens more (same_next token a b) none = refl
  no_truth op tokens more (noun_next word noun a b is) none = no_truth_in op noun is
  no_truth op tokens more (ended_next a [] p q) none = refl
  no_truth op tokens more (ended_next a (Line number ∷ b) p q) none = refl
  no_truth op tokens more (ended_next a b p q) none = absurd q

  -- the flag of the truth value is read or absent, and isn't next
  abbrev OwnTruth : Intrinsic → List Token → List Token → Type 0
  OwnTruth op own rest = IsTruth op own × (is_truth_next op rest ≡ false)

  abbrev TruthIs : Intrinsic → ℕ → List Token → Type 0
  TruthIs op line tokens = OutcomeBy limits (OwnTruth op) (pair limits) (truth_at op line) (Spelled limits (IsTruth op)) line tokens (truth_at op line tokens)

  truth_reads_none : (op : Intrinsic) (line : ℕ) (more : List Token) → is_truth_next op more ≡ false → truth_at op line more ≡ Ok (false, more)
  unfolding truth_at
  truth_reads_none op line more none = rw none refl

  truth_reads_one : (op : Intrinsic) (line : ℕ) (word : List ℕ) (more : List Token) → is_truth_flag op word ≡ true → is_truth_next op more ≡ false → truth_at op line (Word word ∷ more) ≡ Ok (true, more)
  unfolding truth_at
  truth_reads_one op line word more flag none = rw (flag, none) refl

  truth_reads_two : (op : Intrinsic) (line : ℕ) (word again : List ℕ) (more : List Token) → is_truth_flag op word ≡ true → is_truth_flag op again ≡ true → truth_at op line (Word word ∷ Word again ∷ more) ≡ Err (fault line Syntax)
  unfolding truth_at
  truth_reads_two op line word again more flag twice = rw (flag, twice) refl

  no_truth_there : (op : Intrinsic) (line : ℕ) (tokens : List Token) → is_truth_next op tokens ≡ false → TruthIs op line tokens
  no_truth_there op line tokens none =
      subst (OutcomeBy limits (OwnTruth op) (pair limits) (truth_at op line) (Spelled limits (IsTruth op)) line tokens) (sym (truth_reads_none op line tokens none))
      (record {
        value = false;
        own = [];
        rest = tokens;
        is_own = truth_none op;
        inline = inline_none limits;
        there = refl;
        is = refl;
        kept = λ more alike. truth_reads_none op line more (no_truth op tokens more alike none);
        apart = (truth_none op, none);
      })

  one_truth : (op : Intrinsic) (word : List ℕ) → is_truth_flag op word ≡ true → IsTruth op (Word word ∷ [])
  one_truth op word flag = (true, (word, truth_flag-is limits op word flag, refl))

  truth_there : (op : Intrinsic) (line : ℕ) (word : List ℕ) (rest : List Token) → is_truth_flag op word ≡ true → is_truth_next op rest ≡ false → TruthIs op line (Word word ∷ rest)
  truth_there op line word rest flag none =
      subst (OutcomeBy limits (OwnTruth op) (pair limits) (truth_at op line) (Spelled limits (IsTruth op)) line (Word word ∷ rest)) (sym (truth_reads_one op line word rest flag none))
      (record {
        value = true;
        own = Word word ∷ [];
        rest = rest;
        is_own = one_truth op word flag;
        inline = inline_token limits (Word word) [] tt (inline_none limits);
        there = refl;
        is = refl;
        kept = λ more alike. truth_reads_one op line word more flag (no_truth op rest more alike none);
        apart = (one_truth op word flag, none);
      })

  -- the flag of the truth value is next once more
  truth_again : (op : Intrinsic) (line : ℕ) (word again : List ℕ) (rest : List Token) → is_truth_flag op word ≡ true → is_truth_flag op again ≡ true → TruthIs op line (Word word ∷ Word again ∷ rest)
  truth_again op line word again rest flag twice =
      let same_flag : again ≡ word = some_same (sym (truth_flag-is limits op again twice) ∙ truth_flag-is limits op word flag) in
      subst (OutcomeBy limits (OwnTruth op) (pair limits) (truth_at op line) (Spelled limits (IsTruth op)) line (Word word ∷ Word again ∷ rest)) (sym (truth_reads_two op line word again rest flag twice))
      (record {
        front = Word word ∷ [];
        behind = Word again ∷ rest;
        there = refl;
        begins = (true, [], one_truth op word flag);
        inline = inline_token limits (Word word) [] tt (inline_none limits);
        refused = λ more alike. refused more alike;
        here = refl;
        says = says_word limits again rest (inr (inl ([], [], (of_intrinsic op (truth_flag-is limits op again twice), tt), ap (λ (w : List ℕ). Word w ∷ []) (sym same_flag))));
        new = λ left is. absurd cc;
      })
    where
      some_same : {a b : List ℕ} → Some a ≡ Some b → a ≡ b
      some_same e = cc

      refused : (more : List Token) → Alike (Word again ∷ rest) more → IsErr limits (truth_at op line (Word word ∷ more))
      refused more (same t a b) = (fault line Syntax, truth_reads_two op line word again b flag twice)
      refused more (ended a b p q) = absurd p

  truth_outcome : (op : Intrinsic) (line : ℕ) (tokens : List Token) → TruthIs op line tokens
  truth_outcome op line (Word word ∷ rest) = by (is_truth_flag op word) refl
    where
      behind : is_truth_flag op word ≡ true → (ts : List Token) → TruthIs op line (Word word ∷ ts)
      behind flag (Word again ∷ ts) = next (is_truth_flag op again) refl
        where
          next : (b : Bool) → is_truth_flag op again ≡ b → TruthIs op line (Word word ∷ Word again ∷ ts)
          next true twice = truth_again op line word again ts flag twice
          next false none = truth_there op line word (Word again ∷ ts) flag none
      behind flag [] = truth_there op line word [] flag refl
      behind flag (token ∷ ts) = truth_there op line word (token ∷ ts) flag refl

      by : (b : Bool) → is_truth_flag op word ≡ b → TruthIs op line (Word word ∷ rest)
      by true flag = behind flag rest
      by false none = no_truth_there op line (Word word ∷ rest) none
  truth_outcome op line [] = no_truth_there op line [] refl
  truth_outcome op line (token ∷ rest) = no_truth_there op line (token ∷ rest) refl

  -- no other flag than that one can be repeated there
  repeated_truth : (op : Intrinsic) (own : List Token) (left : List ℕ) → IsTruth op own → RepeatsFlag own left → is_truth_flag op left ≡ false → ⊥
  repeated_truth op own left (false, is) repeats none = nothing (subst (λ (ts : List Token). RepeatsFlag ts left) is repeats)
    where
      nothing : RepeatsFlag [] left → ⊥
      nothing ([], words, flags, whole) = cc
      nothing (t ∷ first, words, flags, whole) = cc
  repeated_truth op own left (true, (word, flag, is)) repeats none = one_flag (subst (λ (ts : List Token). RepeatsFlag ts left) is repeats)
    where
      one_flag : RepeatsFlag (Word word ∷ []) left → ⊥
      one_flag ([], words, flags, whole) =
          let same_word_ : word ≡ left = cc in
          let both = sym (truth_flag-of limits op word flag) ∙ ap (is_truth_flag op) same_word_ ∙ none in absurd cc
      one_flag (t ∷ [], words, flags, whole) = cc
      one_flag (t ∷ u ∷ first, words, flags, whole) = cc

  -- what is read behind it begins with a token that is no flag
  truth_parts : {B Y : Type 0} (op : Intrinsic) (half : Half) (S : Bool × List Token → Result Y RuleFault) (line : ℕ) → Parts limits {A = Bool} {B = B} (OwnTruth op) (pair limits) S (λ x. Spelled limits (IsOperand half)) line
  truth_parts {B} {Y} op half S line = record {
    new = λ own rest c x found p. new _ _ _ own rest c found.kind p.front p.behind p.there p.begins.1 p.begins.2 p.says p.new;
    last = λ own rest c x y more is last_. last own more is last_;
  }
    where
      new : (before : ℕ) (fits : Fitting) (none : List ℕ → Type 0) (own rest : List Token) → OwnTruth op own rest → (kind : RuleFaultKind) (front behind : List Token) → rest ≡ front ++ behind → (more : List Token) → IsOperand half (front ++ more) → SaysFirst limits before fits none behind kind → IsNew front kind → IsNew (own ++ front) kind
      new before fits none own rest c kind [] behind there more is says new_ = λ left left_out_ again.
          let w = word_left before fits none behind kind left says left_out_ in
          repeated_truth op own left c.0 (subst (λ (ts : List Token). RepeatsFlag ts left) (append-nil own) again)
          (subst (λ (ts : List Token). is_truth_next op ts ≡ false) (there ∙ w.1) c.1)
      new before fits none own rest c kind (u ∷ front) behind there more is says new_ =
          new_behind own (u ∷ front) kind (inr (operand_other half is.0 (u ∷ front ++ more) [] u (front ++ more) is.1 (sym (append-nil (u ∷ front ++ more))))) new_

      last : (own more : List Token) → IsOperand half more → NoFlagLast more → NoFlagLast (own ++ more)
      last own [] is last_ = absurd (some_operand half is)
      last own (u ∷ more) is last_ = last_both own u more last_

  unary_made : (half : Half) (op : Intrinsic) (own : List Token) → is_known (operations.Unary op) version ≡ true → (IsTruth op ⨾ IsOperand half) own → IsOpBehind half (operations.Unary op) own
  unary_made half op own known (front, back, (truth, flag), (a, is), whole) =
      (Unary op truth a, (opcode_token (operations.Unary op) ∷ [], own, (known, refl), (front, back, flag, is, whole), refl))

  unary_good : (half : Half) (line : ℕ) (op : Intrinsic) → OpGood half line (operations.Unary op)
  unfolding unary_at
  unary_good half line op known = widened limits {L = Spelled limits (IsTruth op ⨾ IsOperand half)} (λ x own is. unary_made half op own known is) record {
    sample = let s = (behind false).sample in (s.0, s.1, ([], s.1, truth_none op, s.2, refl));
    outcome = λ tokens.
        then_by limits (OwnTruth op) (pair limits) (pair limits) (truth_at op line) S (Spelled limits (IsTruth op)) (λ x. Spelled limits (IsOperand half)) (Spelled limits (IsTruth op ⨾ IsOperand half)) line tokens (λ x y front back p q. (front, back, p, q, refl)) (λ x own is. (behind x).sample)
        (truth_parts {B = RawOp} op half S line) (truth_outcome op line tokens) (λ x rest e. (behind x).outcome rest);
  }
    where
      S : Bool × List Token → Result (RawOp × List Token) RuleFault
      S truth = operand_at limits half line truth.1 >>= λ operand. (line_end line operand.1 >>= λ rest. Ok (Unary op truth.0 operand.0, rest))

      behind : (truth : Bool) → Good limits {A = RawOp} (pair limits) (λ ts. S (truth, ts)) (Spelled limits (IsOperand half)) line
      behind truth = then_end limits _ (λ operand. Unary op truth operand) (λ operand rest. refl) (operand_good half line)

  operation_good : (half : Half) (line : ℕ) (operation : Operation) → OpGood half line operation
  operation_good half line (operations.Binary op) = binary_good half line op
  operation_good half line operations.Compare = compare_good half line
  operation_good half line (operations.Unary op) = unary_good half line op
  operation_good half line operations.Select = select_good half line
  operation_good half line (operations.Convert cast) = convert_good half line cast
  operation_good half line operations.Freeze = freeze_good half line

  op_sample : (half : Half) → Sample limits (Spelled limits (IsOp half) {A = RawOp})
  op_sample half =
      let s = (select_good half 0 refl).sample in
      (s.0, Word (codes "select") ∷ s.1, s.2)

  op_fits : (half : Half) → NounFits (Takes limits (Spelled limits (IsOp half) {A = RawOp}) [])
  op_fits half =
      let s = (select_good half 0 refl).sample in
      (codes "select", kinds.opcode operations.Select refl, (s.0, s.1, s.2))

  -- behind an opcode, which itself is no flag
  op_token_outcome : (half : Half) (line : ℕ) (token : Token) (rest : List Token) (operation : Operation) → IsOpcode limits version operation token → IsOwn limits token → ((more : List Token) → op_at limits version half line (token ∷ more) ≡ operation_at limits half line operation more)
      → Outcome limits (pair limits) (op_at limits version half line) (Spelled limits (IsOp half)) line (token ∷ rest) (op_at limits version half line (token ∷ rest))
  op_token_outcome half line token rest operation opcode own reads =
      led limits (pair limits) (op_at limits version half line) (operation_at limits half line operation) (Spelled limits (IsOp half)) line token rest own reads
      (widen limits (pair limits) (operation_at limits half line operation) (λ x own. IsOpBehind half operation own) (λ x own. IsOp half (token ∷ own)) line rest
      (λ x own is. subst (λ (t : Token). IsOp half (t ∷ own)) (sym opcode.1) is) (operation_at limits half line operation rest) ((operation_good half line operation opcode.0).outcome rest))

  word_is : (apart : Bool) (word text : List ℕ) → Word word ≡ token_with apart text → word ≡ text
  word_is true word text e = absurd cc
  word_is false word text e = cc

  op_word_outcome : (half : Half) (line : ℕ) (word : List ℕ) (rest : List Token) (operation : Operation) → operation_in version false word ≡ Some operation → Outcome limits (pair limits) (op_at limits version half line) (Spelled limits (IsOp half)) line (Word word ∷ rest) (op_at limits version half line (Word word ∷ rest))
  unfolding op_at
  op_word_outcome half line word rest operation f =
      let opcode = operation_in-is limits version false word operation f in
      op_token_outcome half line (Word word) rest operation opcode (noun_other word (kinds.opcode operation (word_is (is_apart operation) word (operation_word operation) opcode.1))) (λ more. rw f refl)

  op_apart_outcome : (half : Half) (line : ℕ) (word : List ℕ) (rest : List Token) (operation : Operation) → operation_in version true word ≡ Some operation → Outcome limits (pair limits) (op_at limits version half line) (Spelled limits (IsOp half)) line (OpcodeToken word ∷ rest) (op_at limits version half line (OpcodeToken word ∷ rest))
  unfolding op_at
  op_apart_outcome half line word rest operation f =
      op_token_outcome half line (OpcodeToken word) rest operation (operation_in-is limits version true word operation f) tt (λ more. rw f refl)

  left_out_on : (line : ℕ) (token : Token) (more : List Token) → (left_out line (token ∷ more)).line ≡ line
  left_out_on line (Word word) more = refl
  left_out_on line token more = refl

  source_op_outcome : (line : ℕ) (tokens : List Token) → Outcome limits (pair limits) (op_at limits version Source line) (Spelled limits (IsOp Source)) line tokens (op_at limits version Source line tokens)
  unfolding op_at
  source_op_outcome line [] = refused_here limits (pair limits) (op_at limits version Source line) (Spelled limits (IsOp Source)) line [] (op_sample Source) (λ more alike. by more (ends_alike limits [] more alike tt))
    where
      by : (more : List Token) → EndsLine more → IsErrOn limits (Takes limits (Spelled limits (IsOp Source) {A = RawOp}) []) (Lack limits (op_at limits version Source line) []) line more (op_at limits version Source line more)
      by [] ends = (fault line Syntax, refl, refl, refl)
      by (Line number ∷ more) ends = (fault line Syntax, refl, refl, says_syntax limits (Line number) more tt)
      by more ends = absurd ends
  source_op_outcome line (Line n ∷ rest) = refused_here limits (pair limits) (op_at limits version Source line) (Spelled limits (IsOp Source)) line (Line n ∷ rest) (op_sample Source) (λ more alike. by more (ends_alike limits (Line n ∷ rest) more alike tt))
    where
      by : (more : List Token) → EndsLine more → IsErrOn limits (Takes limits (Spelled limits (IsOp Source) {A = RawOp}) []) (Lack limits (op_at limits version Source line) []) line more (op_at limits version Source line more)
      by [] ends = (fault line Syntax, refl, refl, refl)
      by (Line number ∷ more) ends = (fault line Syntax, refl, refl, says_syntax limits (Line number) more tt)
      by more ends = absurd ends
  source_op_outcome line (OpcodeToken word ∷ rest) = by (operation_in version true word) refl
    where
      by : (found : Option Operation) → operation_in version true word ≡ found → Outcome limits (pair limits) (op_at limits version Source line) (Spelled limits (IsOp Source)) line (OpcodeToken word ∷ rest) (op_at limits version Source line (OpcodeToken word ∷ rest))
      by (Some operation) f = op_apart_outcome Source line word rest operation f
      by None f = refused_token limits (pair limits) (op_at limits version Source line) (Spelled limits (IsOp Source)) line (OpcodeToken word) rest (op_sample Source) (λ p. p) (λ more. (fault line Syntax, rw f refl, refl, says_syntax limits (OpcodeToken word) more tt))
  source_op_outcome line (Word word ∷ rest) = by (operation_in version false word) refl
    where
      by : (found : Option Operation) → operation_in version false word ≡ found → Outcome limits (pair limits) (op_at limits version Source line) (Spelled limits (IsOp Source)) line (Word word ∷ rest) (op_at limits version Source line (Word word ∷ rest))
      by (Some operation) f = op_word_outcome Source line word rest operation f
      by None f = refused_token limits (pair limits) (op_at limits version Source line) (Spelled limits (IsOp Source)) line (Word word) rest (op_sample Source) (λ p. p) (λ more. (misplaced_word line word, rw f refl, refl, says_misplaced limits (op_fits Source) line word more))
  source_op_outcome line (token ∷ rest) =
      refused_token limits (pair limits) (op_at limits version Source line) (Spelled limits (IsOp Source)) line token rest (op_sample Source) (λ p. p) (λ more. (left_out line (token ∷ more), refl, left_out_on line token more, says_left_out limits (op_fits Source) line token more))

  copy_reads : (line : ℕ) → NoNoun limits (copy_at limits line) [] → ⊥
  unfolding copy_at maybe_type type_in typed_at argument_at
  copy_reads line n =
      let leaf_ : SpellsWholeTerm limits Constant limits.nested (raw_nodes.Constant (codes "C") ∷ []) (Word (codes "C") ∷ []) = loosened spare_bytes deepest spare_statements limits.nested 0 (raw_nodes.Constant (codes "C") ∷ []) (Word (codes "C") ∷ []) (leaf (raw_nodes.Constant (codes "C")) (Word (codes "C") ∷ []) (constant_is, omega arith, refl)) in
      let read : term_at limits Constant limits.nested line (Word (codes "C") ∷ []) ≡ Ok (raw_nodes.Constant (codes "C") ∷ [], []) = term_at-of limits Constant limits.nested line (raw_nodes.Constant (codes "C") ∷ []) (Word (codes "C") ∷ []) [] leaf_ tt in
      let whole : copy_at limits line (Word (codes "C") ∷ []) ≡ Ok (Copy (record { written = None; value = argument_of (raw_nodes.Constant (codes "C") ∷ []) }), []) = rw read refl in
      ok_no_err (copy_at limits line (Word (codes "C") ∷ [])) _ whole (n (codes "C") constant_noun [])

  some_op : IsOp Target [] → ⊥
  some_op (Binary op flags a b, (front, back, is, behind, whole)) = first_no (opcode_token (operations.Binary op)) front back is.1 (sym whole)
  some_op (Compare pred samesign a b, (front, back, is, behind, whole)) = first_no (opcode_token operations.Compare) front back is.1 (sym whole)
  some_op (Unary op truth a, (front, back, is, behind, whole)) = first_no (opcode_token (operations.Unary op)) front back is.1 (sym whole)
  some_op (Select a b c, (front, back, is, behind, whole)) = first_no (opcode_token operations.Select) front back is.1 (sym whole)
  some_op (Convert cast flags a to, (front, back, is, behind, whole)) = first_no (opcode_token (operations.Convert cast)) front back is.1 (sym whole)
  some_op (Freeze a, (front, back, is, behind, whole)) = first_no (opcode_token operations.Freeze) front back is.1 (sym whole)
  some_op (Copy a, is) = some_operand Target (a, is)

  as_copy : (line : ℕ) (tokens : List Token) → ((more : List Token) → Alike tokens more → op_at limits version Target line more ≡ copy_at limits line more) → Outcome limits (pair limits) (copy_at limits line) (Spelled limits (IsOp Target)) line tokens (copy_at limits line tokens) → Outcome limits (pair limits) (op_at limits version Target line) (Spelled limits (IsOp Target)) line tokens (op_at limits version Target line tokens)
  as_copy line tokens h o = alike_as limits (pair limits) (op_at limits version Target line) (copy_at limits line) (Spelled limits (IsOp Target)) line tokens (λ x is. some_op is) (copy_reads line) h o

  target_op_outcome : (line : ℕ) (tokens : List Token) → Outcome limits (pair limits) (op_at limits version Target line) (Spelled limits (IsOp Target)) line tokens (op_at limits version Target line tokens)
  unfolding op_at
  target_op_outcome line (OpcodeToken word ∷ rest) = by (operation_in version true word) refl
    where
      by : (found : Option Operation) → operation_in version true word ≡ found → Outcome limits (pair limits) (op_at limits version Target line) (Spelled limits (IsOp Target)) line (OpcodeToken word ∷ rest) (op_at limits version Target line (OpcodeToken word ∷ rest))
      by (Some operation) f = op_apart_outcome Target line word rest operation f
      by None f = as_copy line (OpcodeToken word ∷ rest) (same_reading (op_at limits version Target line) (copy_at limits line) (OpcodeToken word) rest (λ p. p) (λ more. rw f refl)) ((copy_good line).outcome (OpcodeToken word ∷ rest))
  target_op_outcome line (Word word ∷ rest) = by (operation_in version false word) refl
    where
      by : (found : Option Operation) → operation_in version false word ≡ found → Outcome limits (pair limits) (op_at limits version Target line) (Spelled limits (IsOp Target)) line (Word word ∷ rest) (op_at limits version Target line (Word word ∷ rest))
      by (Some operation) f = op_word_outcome Target line word rest operation f
      by None f = as_copy line (Word word ∷ rest) (same_reading (op_at limits version Target line) (copy_at limits line) (Word word) rest (λ p. p) (λ more. rw f refl)) ((copy_good line).outcome (Word word ∷ rest))
  target_op_outcome line [] = as_copy line [] (λ more alike. same_at_end (op_at limits version Target line) (copy_at limits line) refl (λ number m. refl) [] more tt alike) ((copy_good line).outcome [])
  target_op_outcome line (Line n ∷ rest) = as_copy line (Line n ∷ rest) (λ more alike. same_at_end (op_at limits version Target line) (copy_at limits line) refl (λ number m. refl) (Line n ∷ rest) more tt alike) ((copy_good line).outcome (Line n ∷ rest))
  target_op_outcome line (token ∷ rest) = as_copy line (token ∷ rest) (same_reading (op_at limits version Target line) (copy_at limits line) token rest (λ p. p) (λ more. refl)) ((copy_good line).outcome (token ∷ rest))

  op_good : (half : Half) (line : ℕ) → Good limits (pair limits) (op_at limits version half line) (Spelled limits (IsOp half)) line
  op_good Source line = record { sample = op_sample Source; outcome = source_op_outcome line }
  op_good Target line = record { sample = op_sample Target; outcome = target_op_outcome line }

  -- ---- statements

  -- behind the register of a statement
  abbrev pub IsAssigned : Half → Part
  IsAssigned half own = (op : List Token) × IsOp half op × (own ≡ Mark (codes "=") ∷ op)

  assigned_join : (half : Half) (front back : List Token) → Is (Mark (codes "=")) front → IsOp half back → IsAssigned half (front ++ back)
  assigned_join half front back mark op = (back, op, ap (λ (ts : List Token). ts ++ back) mark)

  -- the parser of a statement whose register isn't too long
  pub statement_good : (half : Half) (line : ℕ) (name : List ℕ) → name_within limits line name ≡ Ok name → Good limits (pair limits) (statement_at limits version half line name) (Spelled limits (IsAssigned half)) line
  unfolding statement_at
  statement_good half line name short = record { sample = behind.sample; outcome = λ tokens. same_as limits (pair limits) (statement_at limits version half line name) R (Spelled limits (IsAssigned half)) line tokens (λ more. rw short refl) (behind.outcome tokens) }
    where
      R : Reader limits (RawStatement × List Token)
      R ts = mark_at (codes "=") line ts >>= λ rest. (op_at limits version half line rest >>= λ op. Ok (record { line = line; name = name; op = op.0 }, op.1))

      made : RawOp → RawStatement
      made op = record { line = line; name = name; op = op }

      behind : Good limits {A = RawStatement} (pair limits) (λ ts. mark_at (codes "=") line ts >>= λ rest. (op_at limits version half line rest >>= λ op. Ok (made op.0, op.1))) (Spelled limits (IsAssigned half)) line
      behind = then limits {s = (bare limits)} {t = (pair limits)} _ {L = Spelled limits (Is (Mark (codes "=")))} {M = λ x. Spelled limits (IsOp half)} (λ x y front back mark op. assigned_join half front back mark op) (mark_good limits (codes "=") line)
          (λ u. then_done limits {s = (pair limits)} {L = Spelled limits (IsOp half)} made _ (λ x rest. refl) (λ x own is. is) (op_good half line))
