-- Words that are no nouns fit nowhere.
use Rattle.rule_viable_prefixes.proofs.Common.{◌≡◌, ◌⊎◌, inl, inr, ℕ, Bool, true, false, List, Option, Some, None, refl, sym, ap, subst, ◌∙◌, codes, if◌then◌else◌, bytes_eq, Flags, Flag, Nuw, Nsw, Exact, NNeg, Disjoint, SameSign, pred_in, flag_in, flag_keyword, same_word, word_is, pred_in-of, flag_in-is, is_digit, is_among, is_constant, Two, type_in, type_in-of, Witness, Choice, formula_words, predicate_word, Predicate, IsPowerOfTwo, IsSignBit, choice_in, name_in, meaning_in, meaning_in-of, RawArgument, Operation, is_of_second, is_known, is_apart, operation_in, truth_flag, is_truth_flag, source_word_in, operation_in-of, truth_flag-is, IsNoun, IsFlagWord, of_instruction, of_intrinsic, rule_limits}
use Rattle.ops.specs.declared.opcode.Unary.{Unary as Intrinsic}
use Rattle.ops.specs.declared.opcode.Unary.TheVariants as intrinsics
use Rattle.rule_terms.specs.declared.word.Meaning.TheVariants.{Constant, Call, Width}
use Rattle.rule_viable_prefixes.specs.Misfits as kinds

abbrev IsNone : {A : Type 0} → Option A → Type 0
IsNone {A} o = (x : A) → o ≡ Some x → ⊥

-- a word that no parser knows
record IsUnknown (word : List ℕ) : Type 0 where
  no_opcode : (apart : Bool) → IsNone (operation_in Two apart word)
  no_predicate : IsNone (pred_in word)
  no_type : IsNone (type_in word)
  no_operand : IsNone (source_word_in word)
  no_term : IsNone (meaning_in Witness word)

-- version 2 knows all operations
all_known : (operation : Operation) → is_known operation Two ≡ true
all_known operation = either (is_of_second operation)
  where
    either : (b : Bool) → (if b then true else true) ≡ true
    either true = refl
    either false = refl

not_noun : (word : List ℕ) → IsUnknown word → IsNoun word → ⊥
unfolding source_word_in
not_noun word u (kinds.opcode operation is) = u.no_opcode (is_apart operation) operation (ap (operation_in Two (is_apart operation)) is ∙ operation_in-of rule_limits Two operation (all_known operation))
not_noun word u (kinds.predicate pred is) = u.no_predicate pred (ap pred_in is ∙ pred_in-of pred)
not_noun word u (kinds.type width is) = u.no_type width (type_in-of word width is)
not_noun word u (kinds.constant is) = u.no_term Constant (meaning_in-of Witness Constant word is)
not_noun word u (kinds.truth true is) = u.no_operand _ (ap source_word_in is)
not_noun word u (kinds.truth false is) = u.no_operand _ (ap source_word_in is)
not_noun word u (kinds.undef is) = u.no_operand _ (ap source_word_in is)
not_noun word u (kinds.choice place is) = u.no_term (Choice place) (meaning_in-of Witness (Choice place) word (refl, is))
not_noun word u (kinds.function function is) = u.no_term (Call function) (meaning_in-of Witness (Call function) word is)
not_noun word u (kinds.width is) = u.no_term Width (meaning_in-of Witness Width word is)

pub not_this : (noun word : List ℕ) → (IsNoun word → ⊥) → IsNoun noun → bytes_eq noun word ≡ false
not_this noun word never is = by (bytes_eq noun word) refl
  where
    by : (b : Bool) → bytes_eq noun word ≡ b → bytes_eq noun word ≡ false
    by false h = h
    by true h = absurd (never (subst IsNoun (same_word noun word h) is))

no_instruction_flag : (flag : Flag) → IsNoun (flag_keyword flag) → ⊥
unfolding operation_in pred_in type_in source_word_in meaning_in name_in choice_in is_constant is_digit
no_instruction_flag Nuw is = not_noun (codes "nuw") (record { no_opcode = λ apart x e. absurd cc; no_predicate = λ x e. absurd cc; no_type = λ x e. absurd cc; no_operand = λ x e. absurd cc; no_term = λ x e. absurd cc }) is
no_instruction_flag Nsw is = not_noun (codes "nsw") (record { no_opcode = λ apart x e. absurd cc; no_predicate = λ x e. absurd cc; no_type = λ x e. absurd cc; no_operand = λ x e. absurd cc; no_term = λ x e. absurd cc }) is
no_instruction_flag Exact is = not_noun (codes "exact") (record { no_opcode = λ apart x e. absurd cc; no_predicate = λ x e. absurd cc; no_type = λ x e. absurd cc; no_operand = λ x e. absurd cc; no_term = λ x e. absurd cc }) is
no_instruction_flag NNeg is = not_noun (codes "nneg") (record { no_opcode = λ apart x e. absurd cc; no_predicate = λ x e. absurd cc; no_type = λ x e. absurd cc; no_operand = λ x e. absurd cc; no_term = λ x e. absurd cc }) is
no_instruction_flag Disjoint is = not_noun (codes "disjoint") (record { no_opcode = λ apart x e. absurd cc; no_predicate = λ x e. absurd cc; no_type = λ x e. absurd cc; no_operand = λ x e. absurd cc; no_term = λ x e. absurd cc }) is
no_instruction_flag SameSign is = not_noun (codes "samesign") (record { no_opcode = λ apart x e. absurd cc; no_predicate = λ x e. absurd cc; no_type = λ x e. absurd cc; no_operand = λ x e. absurd cc; no_term = λ x e. absurd cc }) is

-- the flag of an intrinsic is `minpoison` or `zeropoison`
truth_word : (op : Intrinsic) (word : List ℕ) → truth_flag op ≡ Some word → (word ≡ codes "minpoison") ⊎ (word ≡ codes "zeropoison")
truth_word intrinsics.Abs word e = inl cc
truth_word intrinsics.CtPop word e = absurd cc
truth_word intrinsics.CtLz word e = inr cc
truth_word intrinsics.CtTz word e = inr cc

no_intrinsic_flag : (word : List ℕ) → (word ≡ codes "minpoison") ⊎ (word ≡ codes "zeropoison") → IsNoun word → ⊥
unfolding operation_in pred_in type_in source_word_in meaning_in name_in choice_in is_constant is_digit
no_intrinsic_flag word (inl e) is = not_noun (codes "minpoison") (record { no_opcode = λ apart x e. absurd cc; no_predicate = λ x e. absurd cc; no_type = λ x e. absurd cc; no_operand = λ x e. absurd cc; no_term = λ x e. absurd cc }) (subst IsNoun e is)
no_intrinsic_flag word (inr e) is = not_noun (codes "zeropoison") (record { no_opcode = λ apart x e. absurd cc; no_predicate = λ x e. absurd cc; no_type = λ x e. absurd cc; no_operand = λ x e. absurd cc; no_term = λ x e. absurd cc }) (subst IsNoun e is)

-- no noun is a flag
pub noun_other : (noun : List ℕ) → IsNoun noun → IsFlagWord noun → ⊥
noun_other noun is (of_instruction flag same) = no_instruction_flag flag (subst IsNoun same is)
noun_other noun is (of_intrinsic op same) = no_intrinsic_flag noun (truth_word op noun same) is

pub no_flag_in : (taken : Flags) (noun : List ℕ) → IsNoun noun → flag_in taken noun ≡ None
no_flag_in taken noun is = by (flag_in taken noun) refl
  where
    by : (found : Option Flag) → flag_in taken noun ≡ found → flag_in taken noun ≡ None
    by None f = f
    by (Some flag) f = absurd (no_instruction_flag flag (subst IsNoun (flag_in-is taken noun flag f).0 is))

pub no_truth_in : (op : Intrinsic) (noun : List ℕ) → IsNoun noun → is_truth_flag op noun ≡ false
no_truth_in op noun is = by (is_truth_flag op noun) refl
  where
    by : (b : Bool) → is_truth_flag op noun ≡ b → is_truth_flag op noun ≡ false
    by false h = h
    by true h = absurd (noun_other noun is (of_intrinsic op (truth_flag-is rule_limits op noun h)))

pub not_to : (noun : List ℕ) → IsNoun noun → bytes_eq noun (codes "to") ≡ false
unfolding operation_in pred_in type_in source_word_in meaning_in name_in choice_in is_constant is_digit
not_to noun is = not_this noun (codes "to") (not_noun (codes "to") (record { no_opcode = λ apart x e. absurd cc; no_predicate = λ x e. absurd cc; no_type = λ x e. absurd cc; no_operand = λ x e. absurd cc; no_term = λ x e. absurd cc })) is

pub not_in_formulas : (noun : List ℕ) → IsNoun noun → is_among formula_words noun ≡ false
unfolding operation_in pred_in type_in source_word_in meaning_in name_in choice_in is_constant is_digit
not_in_formulas noun is =
    rw (
      not_this noun (codes "isPowerOf2") (not_noun (codes "isPowerOf2") (record { no_opcode = λ apart x e. absurd cc; no_predicate = λ x e. absurd cc; no_type = λ x e. absurd cc; no_operand = λ x e. absurd cc; no_term = λ x e. absurd cc })) is,
      not_this noun (codes "isSignBit") (not_noun (codes "isSignBit") (record { no_opcode = λ apart x e. absurd cc; no_predicate = λ x e. absurd cc; no_type = λ x e. absurd cc; no_operand = λ x e. absurd cc; no_term = λ x e. absurd cc })) is,
      not_this noun (codes "hasOneUse") (not_noun (codes "hasOneUse") (record { no_opcode = λ apart x e. absurd cc; no_predicate = λ x e. absurd cc; no_type = λ x e. absurd cc; no_operand = λ x e. absurd cc; no_term = λ x e. absurd cc })) is,
    ) refl

pub constant_noun : IsNoun (codes "C")
unfolding is_constant
constant_noun = kinds.constant refl

-- ---- other words that are no flags

other_word : (a b : List ℕ) → bytes_eq a b ≡ false → a ≡ b → ⊥
other_word a b differ same = let both : false ≡ true = sym differ ∙ ap (λ (w : List ℕ). bytes_eq w b) same ∙ word_is b in absurd cc

-- the word is none of the flags
abbrev NoneOfThem : List ℕ → Type 0
NoneOfThem word = ((flag : Flag) → word ≡ flag_keyword flag → ⊥) × (word ≡ codes "minpoison" → ⊥) × (word ≡ codes "zeropoison" → ⊥)

none_of_them : (word : List ℕ) → NoneOfThem word → IsFlagWord word → ⊥
none_of_them word none (of_instruction flag is) = none.0 flag is
none_of_them word none (of_intrinsic op is) = elim (truth_word op word is) [ inl e ↦ none.1 e | inr e ↦ none.2 e ]

pub source_other : (word : List ℕ) (value : RawArgument) → source_word_in word ≡ Some value → IsFlagWord word → ⊥
unfolding source_word_in
source_other word value found = none_of_them word ((λ flag same. by flag (ap source_word_in (sym same) ∙ found)), (λ same. let no = ap source_word_in (sym same) ∙ found in cc), (λ same. let no = ap source_word_in (sym same) ∙ found in cc))
  where
    by : (flag : Flag) → source_word_in (flag_keyword flag) ≡ Some value → ⊥
    by Nuw is = cc
    by Nsw is = cc
    by Exact is = cc
    by NNeg is = cc
    by Disjoint is = cc
    by SameSign is = cc

pub to_other : IsFlagWord (codes "to") → ⊥
to_other = none_of_them (codes "to") (by, other_word (codes "to") (codes "minpoison") refl, other_word (codes "to") (codes "zeropoison") refl)
  where
    by : (flag : Flag) → codes "to" ≡ flag_keyword flag → ⊥
    by Nuw is = cc
    by Nsw is = cc
    by Exact is = cc
    by NNeg is = cc
    by Disjoint is = cc
    by SameSign is = cc

pub one_use_other : IsFlagWord (codes "hasOneUse") → ⊥
one_use_other = none_of_them (codes "hasOneUse") (by, other_word (codes "hasOneUse") (codes "minpoison") refl, other_word (codes "hasOneUse") (codes "zeropoison") refl)
  where
    by : (flag : Flag) → codes "hasOneUse" ≡ flag_keyword flag → ⊥
    by Nuw is = cc
    by Nsw is = cc
    by Exact is = cc
    by NNeg is = cc
    by Disjoint is = cc
    by SameSign is = cc

pub predicate_other : (predicate : Predicate) → IsFlagWord (predicate_word predicate) → ⊥
predicate_other IsPowerOfTwo = none_of_them (codes "isPowerOf2") (by, other_word (codes "isPowerOf2") (codes "minpoison") refl, other_word (codes "isPowerOf2") (codes "zeropoison") refl)
  where
    by : (flag : Flag) → codes "isPowerOf2" ≡ flag_keyword flag → ⊥
    by Nuw is = cc
    by Nsw is = cc
    by Exact is = cc
    by NNeg is = cc
    by Disjoint is = cc
    by SameSign is = cc
predicate_other IsSignBit = none_of_them (codes "isSignBit") (by, other_word (codes "isSignBit") (codes "minpoison") refl, other_word (codes "isSignBit") (codes "zeropoison") refl)
  where
    by : (flag : Flag) → codes "isSignBit" ≡ flag_keyword flag → ⊥
    by Nuw is = cc
    by Nsw is = cc
    by Exact is = cc
    by NNeg is = cc
    by Disjoint is = cc
    by SameSign is = cc
