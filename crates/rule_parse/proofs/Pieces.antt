-- Words: the parser takes them exactly as the grammar spells them.
use Rattle.rule_parse.proofs.Common.{◌≡◌, ℕ, Bool, true, false, not, cond, List, [], ◌∷◌, Option, Some, None, refl, sym, ap, subst, ◌∙◌, ⊎_elim, codes, ◌&&◌, and_parts, bytes_eq, Flags, Add, Sub, Mul, UDiv, SDiv, URem, SRem, Shl, LShr, AShr, And, Or, Xor, UMin, UMax, SMin, SMax, CtPop, CtLz, CtTz, Trunc, ZExt, SExt, flag_in, same_word, word_is, found-passes, is_digit, are_digits, which, Source, RawArgument, Operation, SpellsArgument, IsWrittenType, Token, Word, operation_word, operations, is_known, is_apart, is_told, token_with, opcode_token, operation_in, truth_flag, is_truth_flag, source_word_in, chosen, Version, One, Two, Limits}
use Rattle.ops.specs.declared.opcode.Unary.{Unary as Intrinsic}
use Rattle.ops.specs.declared.opcode.Unary.TheVariants.{Abs}
use Rattle.rule_parse.specs.declared.raw.RawArgument.TheVariants as arguments
use Rattle.rule_parse.specs.declared.word.Operation.TheVariants.{Binary, Compare, Unary, Select, Convert, Freeze}
use Rattle.rule_parse.proofs.Beginnings.{no_truth_flag}

module _ (limits : Limits) where
  -- ---- operations and truths

  -- the token is the opcode of an operation of the version
  abbrev pub IsOpcode : Version → Operation → Token → Type 0
  IsOpcode version operation token = (is_known operation version ≡ true) × (token ≡ opcode_token operation)

  told_token : (apart : Bool) (word : List ℕ) (operation : Operation) → word ≡ operation_word operation → is_told apart operation ≡ true → token_with apart word ≡ opcode_token operation
  told_token true word operation is told = ap (token_with true) is ∙ ap (λ (b : Bool). token_with b (operation_word operation)) (sym told)
  told_token false word operation is told = ap (token_with false) is ∙ ap (λ (b : Bool). token_with b (operation_word operation)) (sym (turned (is_apart operation) told))
    where
      turned : (b : Bool) → not b ≡ true → b ≡ false
      turned true e = absurd cc
      turned false e = refl

  pub operation_in-is : (version : Version) (apart : Bool) (word : List ℕ) (operation : Operation) → operation_in version apart word ≡ Some operation → IsOpcode version operation (token_with apart word)
  unfolding operation_in
  operation_in-is version apart word operation e =
      let passes = found-passes (λ (o : Operation). bytes_eq word (operation_word o) && is_known o version && is_told apart o) operations operation e in
      let parts = and_parts (bytes_eq word (operation_word operation) && is_known operation version) (is_told apart operation) passes in
      let known = and_parts (bytes_eq word (operation_word operation)) (is_known operation version) parts.0 in
      (known.1, told_token apart word operation (same_word word (operation_word operation) known.0) parts.1)

  pub operation_in-of : (version : Version) (operation : Operation) → is_known operation version ≡ true → operation_in version (is_apart operation) (operation_word operation) ≡ Some operation
  unfolding operation_in
  operation_in-of version (Binary Add) known = refl
  operation_in-of version (Binary Sub) known = refl
  operation_in-of version (Binary Mul) known = refl
  operation_in-of version (Binary UDiv) known = refl
  operation_in-of version (Binary SDiv) known = refl
  operation_in-of version (Binary URem) known = refl
  operation_in-of version (Binary SRem) known = refl
  operation_in-of version (Binary Shl) known = refl
  operation_in-of version (Binary LShr) known = refl
  operation_in-of version (Binary AShr) known = refl
  operation_in-of version (Binary And) known = refl
  operation_in-of version (Binary Or) known = refl
  operation_in-of version (Binary Xor) known = refl
  operation_in-of version Compare known = refl
  operation_in-of version Select known = refl
  operation_in-of version (Convert Trunc) known = refl
  operation_in-of version (Convert ZExt) known = refl
  operation_in-of version (Convert SExt) known = refl
  operation_in-of Two Freeze known = refl
  operation_in-of One Freeze known = absurd cc
  operation_in-of Two (Binary UMin) known = refl
  operation_in-of One (Binary UMin) known = absurd cc
  operation_in-of Two (Binary UMax) known = refl
  operation_in-of One (Binary UMax) known = absurd cc
  operation_in-of Two (Binary SMin) known = refl
  operation_in-of One (Binary SMin) known = absurd cc
  operation_in-of Two (Binary SMax) known = refl
  operation_in-of One (Binary SMax) known = absurd cc
  operation_in-of Two (Unary Abs) known = refl
  operation_in-of One (Unary Abs) known = absurd cc
  operation_in-of Two (Unary CtPop) known = refl
  operation_in-of One (Unary CtPop) known = absurd cc
  operation_in-of Two (Unary CtLz) known = refl
  operation_in-of One (Unary CtLz) known = absurd cc
  operation_in-of Two (Unary CtTz) known = refl
  operation_in-of One (Unary CtTz) known = absurd cc

  -- ---- flags of intrinsics

  pub truth_flag-is : (op : Intrinsic) (word : List ℕ) → is_truth_flag op word ≡ true → truth_flag op ≡ Some word
  truth_flag-is Abs word e = ap Some (sym (same_word word (codes "minpoison") e))
  truth_flag-is CtPop word e = absurd cc
  truth_flag-is CtLz word e = ap Some (sym (same_word word (codes "zeropoison") e))
  truth_flag-is CtTz word e = ap Some (sym (same_word word (codes "zeropoison") e))

  pub truth_flag-of : (op : Intrinsic) (word : List ℕ) → truth_flag op ≡ Some word → is_truth_flag op word ≡ true
  truth_flag-of op word e = rw e (word_is word)

  -- words are compared one after the other
  tried : (word wanted : List ℕ) (a value : RawArgument) (others : Option RawArgument) → SpellsArgument limits Source a (Word wanted ∷ []) → cond (bytes_eq word wanted) (Some a) others ≡ Some value → (others ≡ Some value → SpellsArgument limits Source value (Word word ∷ [])) → SpellsArgument limits Source value (Word word ∷ [])
  tried word wanted a value others is e next = ⊎_elim
      (λ (h : (bytes_eq word wanted ≡ true) × (Some a ≡ Some value)).
      let spelled : SpellsArgument limits Source a (Word word ∷ []) = subst (λ (w : List ℕ). SpellsArgument limits Source a (Word w ∷ [])) (sym (same_word word wanted h.0)) is in
      subst (λ (v : RawArgument). SpellsArgument limits Source v (Word word ∷ [])) (let taken = h.1 in cc) spelled)
      (λ (h : (bytes_eq word wanted ≡ false) × (others ≡ Some value)). next h.1)
      (chosen (bytes_eq word wanted) (Some a) others (Some value) e)

  pub source_word_in-is : (word : List ℕ) (value : RawArgument) → source_word_in word ≡ Some value → SpellsArgument limits Source value (Word word ∷ [])
  unfolding source_word_in
  source_word_in-is word value e =
      tried word (codes "true") (arguments.Truth true) value _ refl e (λ e1.
      tried word (codes "false") (arguments.Truth false) value _ refl e1 (λ e2.
      tried word (codes "undef") arguments.Undef value _ refl e2 (λ e3. absurd cc)))

  -- ---- types

  -- the word of a type is no flag and no opcode
  pub type_is_no_flag : (taken : Flags) (word : List ℕ) (width : ℕ) → IsWrittenType word width → flag_in taken word ≡ None
  unfolding flag_in
  type_is_no_flag taken word width is = rw is.1 refl

  pub type_is_no_truth_flag : (op : Intrinsic) (word : List ℕ) (width : ℕ) → IsWrittenType word width → is_truth_flag op word ≡ false
  type_is_no_truth_flag op word width is = rw is.1 (no_truth_flag limits (105 ∷ is.0) refl refl op)

  digits_are_no_letters : (digits : List ℕ) → are_digits digits ≡ true → bytes_eq digits (codes "cmp") ≡ false
  unfolding is_digit
  digits_are_no_letters digits all = ⊎_elim
      (λ (yes : bytes_eq digits (codes "cmp") ≡ true). let letters : are_digits (codes "cmp") ≡ true = subst (λ (ds : List ℕ). are_digits ds ≡ true) (same_word digits (codes "cmp") yes) all in absurd cc)
      (λ (no : bytes_eq digits (codes "cmp") ≡ false). no)
      (which (bytes_eq digits (codes "cmp")))

  pub type_is_no_operation : (version : Version) (word : List ℕ) (width : ℕ) → IsWrittenType word width → operation_in version false word ≡ None
  unfolding operation_in
  type_is_no_operation version word width (digits, is, all, value, low, high) = rw (is, digits_are_no_letters digits all) refl
