-- Literals of the right widths may be read as what statements ask for.
use Rattle.blast_rule.proofs.Common.{◌≡◌, ℕ, zero, suc, ◌<◌, List, [], ◌∷◌, length, map, take, Some, refl, sym, ap, subst, ◌∙◌, arith, get_or, slice_get, slice_index, option_map, option_map_or, length-map, pow_pos, same_Some, slice_get-map, slice_get-get_or, slice_get_within, get_or_from_slice_get, IsValueOf, bits, Rule, Term, IsTyping, IsRule, at_start, temporaries_of, InputsFit, ConstantsFit, TargetChoicesFit, SourceChoicesFit, Setting, SettingFits, witness_number, TermsFit, GivenFits, ValuesFit-none, source_given, given_before_root, target_given, choices_fit, widths_of, input_widths, constant_widths, choice_widths, widths_of_terms, shape, word_shape, term_widths, FitAll, IsNumberOf, inputs_fit, constants_fit, target_choices_fit}
use Rattle.blast_value.specs.declared.held.Held.{Held}

-- things of these sizes fit what is asked at these widths
module _ {M X : Type 0} (Fits : ℕ → X → Type 0) (size : M → ℕ) (stand : M → X) (fits : (m : M) → Fits (size m) (stand m)) where
  pub stands_fit : (items : List M) (k N : ℕ) (x : X) → slice_get (map size items) k ≡ Some N → slice_get (map stand items) k ≡ Some x → Fits N x
  stands_fit [] k N x at there = absurd (omega (arith, slice_get_within [] k N at))
  stands_fit (m ∷ items) zero N x at there = subst (λ n. Fits n x) (same_Some (size m) N at) (subst (Fits (size m)) (same_Some (stand m) x there) (fits m))
  stands_fit (m ∷ items) (suc k) N x at there = stands_fit items k N x at there

  pub all_stand : (items : List M) (widths : List ℕ) → map size items ≡ widths → FitAll Fits widths (map stand items)
  all_stand items widths is = (
    length-map items stand ∙ sym (length-map items size) ∙ ap length is,
    λ k N x at there. stands_fit items k N x (ap (λ ws. slice_get ws k) is ∙ at) there,
  )

shape_fits : {L : Type 0} (h : Held L) → IsValueOf (length h.bits) (shape h)
shape_fits h = (refl, pow_pos (length h.bits))

word_fits : {L : Type 0} (word : List L) → IsNumberOf (length word) (word_shape word)
word_fits word = (refl, pow_pos (length word))

module _ {L : Type 0} (rule : Rule) (typing : List ℕ) (checked : IsRule rule) (typed : IsTyping rule typing) where
  -- literals of the rule's inputs; below, words of its constants and of the target's choices
  pub inputs_stand : (items : List (Held L)) → widths_of items ≡ input_widths rule typing → InputsFit rule typing (map shape items)
  inputs_stand items is = inputs_fit rule typing checked typed (map shape items) (all_stand IsValueOf (λ (h : Held L). length h.bits) shape shape_fits items (input_widths rule typing) is)

  pub constants_stand : (words : List (List L)) → map length words ≡ constant_widths rule typing → ConstantsFit rule typing (map word_shape words)
  constants_stand words is = constants_fit rule typing checked typed (map word_shape words) (all_stand IsNumberOf length word_shape word_fits words (constant_widths rule typing) is)

  pub target_choices_stand : (words : List (List L)) → map length words ≡ choice_widths rule typing → TargetChoicesFit rule typing (map word_shape words)
  target_choices_stand words is = target_choices_fit rule typing checked typed (map word_shape words) (all_stand IsNumberOf length word_shape word_fits words (choice_widths rule typing) is)

  -- words of the rule's terms
  pub terms_stand : (words : List (List L)) → map length words ≡ widths_of_terms rule typing → (length (map (λ (word : List L). bits (length word) 0) words) ≡ length rule.terms) × TermsFit typing rule.terms (map (λ (word : List L). bits (length word) 0) words)
  terms_stand words is = (
    length-map words (λ (word : List L). bits (length word) 0) ∙ sym (length-map words length) ∙ ap length is ∙ length-map rule.terms (λ (t : Term). slice_index typing t.class),
    λ k t v N at there width.
        let told : slice_get (map length words) k ≡ Some N =
        ap (λ ws. slice_get ws k) is ∙ slice_get-map (λ (t : Term). slice_index typing t.class) rule.terms k ∙ ap (option_map (λ (t : Term). slice_index typing t.class)) at ∙ ap (λ M. Some M) (get_or_from_slice_get typing t.class N 0 width) in
        stands_fit IsValueOf length (λ (word : List L). bits (length word) 0) (λ word. (refl, pow_pos (length word))) words k N v told there,
  )

-- the width of the term at a place, 0 past the end
pub width_at_place : (typing : List ℕ) (terms : List Term) (n : ℕ) → slice_index (term_widths typing terms) n ≡ option_map_or (λ (t : Term). slice_index typing t.class) (slice_get terms n) 0
width_at_place typing [] zero = refl
width_at_place typing [] (suc n) = refl
width_at_place typing (t ∷ terms) zero = refl
width_at_place typing (t ∷ terms) (suc n) = width_at_place typing terms n

module _ {L : Type 0} (rule : Rule) (typing : List ℕ) (checked : IsRule rule) (typed : IsTyping rule typing) (items : List (Held L)) (constants left_open terms : List (List L))
    (inputs_are : widths_of items ≡ input_widths rule typing) (constants_are : map length constants ≡ constant_widths rule typing) (left_open_are : map length left_open ≡ choice_widths rule typing) (terms_are : map length terms ≡ widths_of_terms rule typing) where
  abbrev standing : Setting
  standing = record { inputs = map shape items; constants = map word_shape constants; target_choices = map word_shape left_open }

  pub standing_fits : SettingFits rule typing standing
  standing_fits = record {
    inputs = inputs_stand rule typing checked typed items inputs_are;
    constants = constants_stand rule typing checked typed constants constants_are;
    target_choices = target_choices_stand rule typing checked typed left_open left_open_are;
  }

  -- words of the numbers that `Wit:` chooses
  pub choices_stand : (words : List (List L)) → map length words ≡ map (slice_index (term_widths typing rule.witness_terms)) rule.witnesses → SourceChoicesFit rule typing (map word_shape words)
  choices_stand words is =
      let fit = choices_fit rule typing standing (at_start (map shape items)) checked typed standing_fits
      (record { inputs = standing_fits.inputs; source = ValuesFit-none typing rule.source; target = ValuesFit-none typing rule.target }) in
      let chosen = witness_number rule typing standing (at_start (map shape items)) in
      let told = slice_index (term_widths typing rule.witness_terms) in
      let count : length words ≡ length rule.witnesses = sym (length-map words length) ∙ ap length is ∙ length-map rule.witnesses told in
      record {
        count = length-map words word_shape ∙ count ∙ checked.witnesses;
        widths = λ k c N n opens width at.
            let within : k < length words = omega (arith, slice_get_within (map word_shape words) k n at, length-map words word_shape) in
            let m : ℕ = get_or rule.witnesses k 0 in
            let there : slice_get rule.witnesses k ≡ Some m = slice_get-get_or rule.witnesses k 0 (omega arith) in
            let first = fit.widths k c N (chosen m) opens width (slice_get-map chosen rule.witnesses k ∙ ap (option_map chosen) there) in
            let size : slice_get (map length words) k ≡ Some N =
            ap (λ ws. slice_get ws k) is ∙ slice_get-map told rule.witnesses k ∙ ap (option_map told) there ∙ ap (λ M. Some M) (width_at_place typing rule.witness_terms m ∙ first.0) in
            stands_fit IsNumberOf length word_shape word_fits words k N n size at;
      }

  -- all that statements read beside registers
  pub before_root_stands : (words : List (List L))
      → GivenFits rule typing (temporaries_of rule) (record { constants = map word_shape constants; choices = map word_shape words; terms = map (λ (word : List L). bits (length word) 0) terms })
  before_root_stands words = record {
    constants = standing_fits.constants;
    choices = λ k c N opens width. let none = (given_before_root rule typing (map word_shape constants) checked typed standing_fits.constants).choices k c N opens width in cc;
    terms = terms_stand rule typing checked typed terms terms_are;
  }

  pub source_stands : (words : List (List L)) → map length words ≡ map (slice_index (term_widths typing rule.witness_terms)) rule.witnesses
      → GivenFits rule typing (take (length rule.source) rule.source) (record { constants = map word_shape constants; choices = map word_shape words; terms = map (λ (word : List L). bits (length word) 0) terms })
  source_stands words is = record {
    constants = standing_fits.constants;
    choices = (source_given rule typing (map word_shape constants) checked typed standing_fits.constants (map word_shape words) (length rule.source) (choices_stand words is)).choices;
    terms = terms_stand rule typing checked typed terms terms_are;
  }

  pub target_stands : GivenFits rule typing rule.target (record { constants = map word_shape constants; choices = map word_shape left_open; terms = map (λ (word : List L). bits (length word) 0) terms })
  target_stands = record {
    constants = standing_fits.constants;
    choices = (target_given rule typing (map word_shape constants) checked typed standing_fits.constants (map word_shape left_open) standing_fits.target_choices).choices;
    terms = terms_stand rule typing checked typed terms terms_are;
  }
