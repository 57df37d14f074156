-- Each setting that is read fits, and each setting that fits is read from some list.
use Rattle.blast_setting.proofs.Common.{◌≡◌, ℕ, ◌+◌, ◌<◌, List, [], ◌∷◌, ◌++◌, length, take, Bool, Some, refl, sym, ap, subst, ◌∙◌, arith, get_or, slice_get, slice_index, length-map, take_more, slice_get-get_or, slice_get_within, get_or_from_slice_get, same_Some, Number, IsValueOf, Value, Bits, Rule, Statement, IsTyping, IsRule, Choice, Names, choices_among, chooses, name, source_operand, Setting, InputsFit, ConstantsFit, TargetChoicesFit, Kind, Input, Constant, named_width, named_widths, input_widths, constant_widths, choice_widths, value_bits, number_bits, AreNamed, value_read, number_read, values_read, numbers_read, behind_inputs, behind_constants, ReadSettingsFit, FittingSettingsAreRead}
use Rattle.std.proofs.Common.{length-append}
use Rattle.rule_core.specs.declared.rule.Name.TheVariants as names_of
use Rattle.blast_setting.proofs.Widths.{name_of, count_of, naming, operand_width, named_width-is, are_named, length-named_widths, named_widths-at}
use Rattle.blast_setting.proofs.ChosenWidths.{choice_at, choice_open, choice_width, open_class}
use Rattle.blast_setting.proofs.Written.{FitAll, written, length-written, read-written, value_read-fits, number_written, length-number_written, read-number_written, number_read-fits, all_written, length-all_written, read-all_written, behind-all_written, all_read-fit, length-all_read}

abbrev pub IsNumberOf : ℕ → Number → Type 0
IsNumberOf N n = IsValueOf N (Bits n)

module _ {X : Type 0} (Fits : ℕ → X → Type 0) (rule : Rule) (typing : List ℕ) (kind : Kind) (checked : IsRule rule) (typed : IsTyping rule typing) (xs : List X) where
  -- things of the widths of a kind's names fit at each position that reads one of them
  pub fit_widths : FitAll Fits (named_widths typing rule.source kind (count_of rule kind)) xs
      → (k c N : ℕ) (x : X) → Names rule (name_of kind k) c → slice_get typing c ≡ Some N → slice_get xs k ≡ Some x → Fits N x
  fit_widths fit k c N x names at there =
      let within : k < count_of rule kind = omega (arith, slice_get_within xs k x there, fit.0, length-named_widths typing rule.source kind (count_of rule kind)) in
      let is = named_width-is rule typing kind k c N typed (are_named rule typing kind checked typed k within) names at in
      subst (λ M. Fits M x) is (fit.1 k (named_width typing rule.source kind k) x (named_widths-at typing rule.source kind (count_of rule kind) k within) there)

  -- things that fit at each position that reads one of them have the widths of the kind's names
  pub widths_fit : length xs ≡ count_of rule kind → ((k c N : ℕ) (x : X) → Names rule (name_of kind k) c → slice_get typing c ≡ Some N → slice_get xs k ≡ Some x → Fits N x)
      → FitAll Fits (named_widths typing rule.source kind (count_of rule kind)) xs
  widths_fit count fit = (
    count ∙ sym (length-named_widths typing rule.source kind (count_of rule kind)),
    λ k N x at there.
        let within : k < count_of rule kind = omega (arith, slice_get_within xs k x there, count) in
        let named = are_named rule typing kind checked typed k within in
        let o = named.operand in
        let w = operand_width rule typing o.0 typed (source_operand rule o.0 o.1) in
        let names = naming rule kind k o.0 o.1 o.2 in
        let is = named_width-is rule typing kind k o.0.class w.0 typed named names w.1 in
        let same : N ≡ w.0 = same_Some N (named_width typing rule.source kind k) (sym at ∙ named_widths-at typing rule.source kind (count_of rule kind) k within) ∙ is in
        subst (λ M. Fits M x) (sym same) (fit k o.0.class w.0 x names w.1 there),
  )

module _ (rule : Rule) (typing : List ℕ) (checked : IsRule rule) (typed : IsTyping rule typing) where
  pub inputs_fit : (values : List Value) → FitAll IsValueOf (input_widths rule typing) values → InputsFit rule typing values
  inputs_fit values fit = record {
    count = fit.0 ∙ length-named_widths typing rule.source Input (length rule.inputs);
    widths = fit_widths IsValueOf rule typing Input checked typed values fit;
  }

  pub constants_fit : (numbers : List Number) → FitAll IsNumberOf (constant_widths rule typing) numbers → ConstantsFit rule typing numbers
  constants_fit numbers fit = record {
    count = fit.0 ∙ length-named_widths typing rule.source Constant (length rule.constants);
    widths = fit_widths IsNumberOf rule typing Constant checked typed numbers fit;
  }

-- numbers of the widths of the target's choices fit these choices
pub target_choices_fit : (rule : Rule) (typing : List ℕ) → IsRule rule → IsTyping rule typing → (numbers : List Number) → FitAll IsNumberOf (choice_widths rule typing) numbers → TargetChoicesFit rule typing numbers
target_choices_fit rule typing checked typed numbers fit = record {
  count = fit.0 ∙ length-map (choices_among rule.target) (λ (choice : Choice). slice_index typing choice.class);
  widths = λ k c N n names at here.
      let within : k < length (choices_among rule.target) = omega (arith, slice_get_within numbers k n here, fit.0, length-map (choices_among rule.target) (λ (choice : Choice). slice_index typing choice.class)) in
      let choice = choice_at rule.target k checked.target_choices within in
      let width : slice_get typing choice.0 ≡ Some N = typed.same choice.0 c (name {n = names_of.Choice k} (chooses (choice_open rule.target k choice.0 choice.1)) names) ∙ at in
      fit.1 k N n (choice_width typing rule.target k choice.0 N choice.1 width) here;
}

-- numbers that fit the target's choices have these widths
pub fitting_target_choices : (rule : Rule) (typing : List ℕ) → IsRule rule → IsTyping rule typing → (numbers : List Number) → TargetChoicesFit rule typing numbers → FitAll IsNumberOf (choice_widths rule typing) numbers
fitting_target_choices rule typing checked typed numbers fit = (
  fit.count ∙ sym (length-map (choices_among rule.target) (λ (choice : Choice). slice_index typing choice.class)),
  λ k N n at here.
      let within : k < length (choices_among rule.target) = omega (arith, slice_get_within numbers k n here, fit.count) in
      let choice = choice_at rule.target k checked.target_choices within in
      let left_open = choice_open rule.target k choice.0 choice.1 in
      let M = get_or typing choice.0 0 in
      let width : slice_get typing choice.0 ≡ Some M = slice_get-get_or typing choice.0 0 (open_class rule typing k choice.0 typed left_open) in
      let same : M ≡ N = same_Some M N (sym (choice_width typing rule.target k choice.0 M choice.1 width) ∙ at) in
      subst (λ W. IsNumberOf W n) same (fit.widths k choice.0 M n (chooses left_open) width here),
)

all_numbers-fit : (widths : List ℕ) (read : List Bool) → FitAll IsNumberOf widths (numbers_read widths read)
all_numbers-fit widths read = (
  length-all_read number_read number_bits IsNumberOf number_written length-number_written read-number_written number_read-fits widths read,
  all_read-fit number_read number_bits IsNumberOf number_written length-number_written read-number_written number_read-fits widths read,
)

pub read_fits : ReadSettingsFit
read_fits rule typing read checked typed =
    record {
      inputs = inputs_fit rule typing checked typed (values_read (input_widths rule typing) read) (
        length-all_read value_read value_bits IsValueOf written length-written read-written value_read-fits (input_widths rule typing) read,
        all_read-fit value_read value_bits IsValueOf written length-written read-written value_read-fits (input_widths rule typing) read,
      );
      constants = constants_fit rule typing checked typed (numbers_read (constant_widths rule typing) (behind_inputs rule typing read)) (all_numbers-fit (constant_widths rule typing) (behind_inputs rule typing read));
      target_choices = target_choices_fit rule typing checked typed (numbers_read (choice_widths rule typing) (behind_constants rule typing read)) (all_numbers-fit (choice_widths rule typing) (behind_constants rule typing read));
    }

-- a setting is the same where its three lists are
pub same_setting : (setting : Setting) (inputs : List Value) (constants choices : List Number) → inputs ≡ setting.inputs → constants ≡ setting.constants → choices ≡ setting.target_choices
    → record { inputs = inputs; constants = constants; target_choices = choices } ≡ setting
same_setting setting inputs constants choices first second third = rw (first, second, third) refl

pub fitting_are_read : FittingSettingsAreRead
fitting_are_read rule typing setting checked typed fits =
    let iw = input_widths rule typing in
    let cw = constant_widths rule typing in
    let uw = choice_widths rule typing in
    let i_fit = widths_fit IsValueOf rule typing Input checked typed setting.inputs fits.inputs.count fits.inputs.widths in
    let c_fit = widths_fit IsNumberOf rule typing Constant checked typed setting.constants fits.constants.count fits.constants.widths in
    let u_fit = fitting_target_choices rule typing checked typed setting.target_choices fits.target_choices in
    let first = all_written value_read value_bits IsValueOf written length-written read-written value_read-fits iw setting.inputs in
    let second = all_written number_read number_bits IsNumberOf number_written length-number_written read-number_written number_read-fits cw setting.constants in
    let third = all_written number_read number_bits IsNumberOf number_written length-number_written read-number_written number_read-fits uw setting.target_choices in
    let read : List Bool = first ++ (second ++ (third ++ [])) in
    let behind : behind_inputs rule typing read ≡ second ++ (third ++ []) =
    behind-all_written value_read value_bits IsValueOf written length-written read-written value_read-fits iw setting.inputs (second ++ (third ++ [])) i_fit.0 in
    let behind_both : behind_constants rule typing read ≡ third ++ [] =
    rw behind (behind-all_written number_read number_bits IsNumberOf number_written length-number_written read-number_written number_read-fits cw setting.constants (third ++ []) c_fit.0) in (
      read,
      record {
        count = omega (
          arith,
          length-append first (second ++ (third ++ [])),
          length-append second (third ++ []),
          length-append third [],
          length-all_written value_read value_bits IsValueOf written length-written read-written value_read-fits iw setting.inputs i_fit.0,
          length-all_written number_read number_bits IsNumberOf number_written length-number_written read-number_written number_read-fits cw setting.constants c_fit.0,
          length-all_written number_read number_bits IsNumberOf number_written length-number_written read-number_written number_read-fits uw setting.target_choices u_fit.0,
        );
        is = same_setting setting _ _ _
            (read-all_written value_read value_bits IsValueOf written length-written read-written value_read-fits iw setting.inputs (second ++ (third ++ [])) i_fit)
            (ap (numbers_read cw) behind ∙ read-all_written number_read number_bits IsNumberOf number_written length-number_written read-number_written number_read-fits cw setting.constants (third ++ []) c_fit)
            (ap (numbers_read uw) behind_both ∙ read-all_written number_read number_bits IsNumberOf number_written length-number_written read-number_written number_read-fits uw setting.target_choices [] u_fit);
      },
    )

-- the widths with one more
pub named_widths-more : (typing : List ℕ) (kind : Kind) (statements : List Statement) (count k : ℕ) → k < count
    → take (k + 1) (named_widths typing statements kind count) ≡ take k (named_widths typing statements kind count) ++ named_width typing statements kind k ∷ []
named_widths-more typing kind statements count k within =
    let widths = named_widths typing statements kind count in
    let width : get_or widths k 0 ≡ named_width typing statements kind k = get_or_from_slice_get widths k (named_width typing statements kind k) 0 (named_widths-at typing statements kind count k within) in
    take_more widths k 0 (omega (arith, length-named_widths typing statements kind count)) ∙ ap (λ N. take k widths ++ N ∷ []) width

-- each name of the kind is read by an operand of the source, so its width is told
pub are_named_as : (rule : Rule) (typing : List ℕ) (kind : Kind) → IsRule rule → IsTyping rule typing → (ts : List ℕ) (statements : List Statement) (count : ℕ)
    → ts ≡ typing → statements ≡ rule.source → count ≡ count_of rule kind → AreNamed ts statements kind count
are_named_as rule typing kind checked typed ts statements count same half all = rw (same, half, all) (are_named rule typing kind checked typed)

pub widths_as : (rule : Rule) (typing : List ℕ) (kind : Kind) (ts : List ℕ) (statements : List Statement) (count : ℕ)
    → ts ≡ typing → statements ≡ rule.source → count ≡ count_of rule kind → named_widths ts statements kind count ≡ named_widths typing rule.source kind (count_of rule kind)
widths_as rule typing kind ts statements count same half all = rw (same, half, all) refl
