-- What statements read beside registers is there, of its width: numbers of constants and of a half's choices, and
-- terms.
use Rattle.rule_core.proofs.Common.{◌≡◌, ℕ, suc, ◌-◌, ◌<◌, List, [], length, take, length-take, Some, sym, ap, subst, ◌∙◌, arith, get_or, slice_get, Contains, map, range_with_len, get_or-take, length-range_with_len, get_or-range_with_len, slice_get-get_or, slice_get_within, get_or_from_slice_get, Number, IsValueOf, Value, Bits, Rule, Statement, Choice, choices_of, choices_among, LeavesOpen, chooses, IsTyping, IsRule, ChoicesInOrder, SourceMayRead, MayStandInSource, given_by, ConstantsFit, SourceChoicesFit, TargetChoicesFit, constant_values, GivenFits}
use Rattle.rule_core.proofs.Members.{Contains-from_get, Contains-map, flat_map-from, statement_open, choice_opens, reads_undef, freezes}
use Rattle.rule_core.proofs.Ready.{constant_values_fit}

-- an element of a prefix is one of the list, at the same place
pub get_taken : {X : Type 0} (xs : List X) (n k : ℕ) (x : X) → slice_get (take n xs) k ≡ Some x → (slice_get xs k ≡ Some x) × (k < n)
get_taken xs n k x at =
    let inside : k < length (take n xs) = slice_get_within (take n xs) k x at in
    let less : k < n = omega (arith, length-take n xs) in
    let within : k < length xs = omega (arith, length-take n xs) in
    (slice_get-get_or xs k x within ∙ ap (λ y. Some y) (sym (get_or-take n xs k x less) ∙ get_or_from_slice_get (take n xs) k x x at), less)

-- an element of the list whose place is below the prefix's length is one of the prefix
pub Contains-take : {X : Type 0} (xs : List X) (n k : ℕ) (x : X) → k < n → slice_get xs k ≡ Some x → Contains (take n xs) x
Contains-take xs n k x less at =
    let within : k < length xs = slice_get_within xs k x at in
    (k, omega (arith, length-take n xs), get_or-take n xs k x less ∙ get_or_from_slice_get xs k x x at)

-- the number of a choice is below the count of its half's choices
choice_within : (statements : List Statement) (k c : ℕ) → ChoicesInOrder statements → LeavesOpen statements k c → k < length (choices_among statements)
choice_within statements k c order left_open =
    let count : ℕ = length (choices_among statements) in
    let named : Contains (map (λ (choice : Choice). choice.place) (choices_among statements)) k =
    Contains-map (λ (choice : Choice). choice.place) (choices_among statements) (record { place = k; class = c }) left_open in
    let placed : Contains (range_with_len 0 count) k = rw order at named in
    let small : placed.0 < count = omega (arith, placed.1, length-range_with_len 0 count) in
    omega (arith, small, placed.2, get_or-range_with_len 0 count placed.0 k small)

-- a statement of the source that has a choice is the root's
pub opens_root : (rule : Rule) → IsRule rule → (j : ℕ) (s : Statement) (choice : Choice) → slice_get rule.source j ≡ Some s → Contains (choices_of s) choice → suc j ≡ length rule.source
opens_root rule checked j s choice at among =
    elim (choice_opens s choice among) [
      | reads_undef o here is same ↦ subst (SourceMayRead rule j) is (checked.source_reads j s o at here)
      | freezes a is same ↦ subst (MayStandInSource rule j) is (checked.source_ops j s at)
    ]

choice_ready : (N k : ℕ) (choices : List Number) → k < length choices → ((n : Number) → slice_get choices k ≡ Some n → IsValueOf N (Bits n)) → (n : Number) × (slice_get choices k ≡ Some n) × IsValueOf N (Bits n)
choice_ready N k choices within fits =
    let zero_bits : Number = record { width = 0; number = 0 } in
    let n : Number = get_or choices k zero_bits in
    let at : slice_get choices k ≡ Some n = slice_get-get_or choices k zero_bits within in
    (n, at, fits n at)

module _ (rule : Rule) (typing : List ℕ) (constants : List Number) (checked : IsRule rule) (typed : IsTyping rule typing) (fits : ConstantsFit rule typing constants) where
  -- a choice of the first statements of the source is one of the source
  among_source : (count k c : ℕ) → LeavesOpen (take count rule.source) k c
      → (j : ℕ) × (s : Statement) × (slice_get rule.source j ≡ Some s) × (j < count) × Contains (choices_of s) (record { place = k; class = c })
  among_source count k c left_open =
      let part = flat_map-from choices_of (take count rule.source) (record { place = k; class = c }) left_open in
      let whole = get_taken rule.source count part.0 part.1 part.2 in
      (part.0, part.1, whole.0, whole.1, part.3)

  pub source_given : (choices : List Number) (count : ℕ) → SourceChoicesFit rule typing choices → GivenFits rule typing (take count rule.source) (given_by typing constants choices rule)
  source_given choices count chosen =
      record {
        constants = fits;
        choices = λ k c N left_open width.
            let at = among_source count k c left_open in
            let all : LeavesOpen rule.source k c = statement_open rule.source at.1 (record { place = k; class = c }) (Contains-from_get rule.source at.0 at.1 at.2) at.4 in
            choice_ready N k choices (omega (arith, chosen.count, choice_within rule.source k c checked.source_choices all))
            (λ n here. chosen.widths k c N n all width here);
        terms = constant_values_fit rule typing constants checked typed fits;
      }

  -- before the root no choice is needed, since none stands there
  pub given_before_root : GivenFits rule typing (take (length rule.source - 1) rule.source) (given_by typing constants [] rule)
  given_before_root =
      record {
        constants = fits;
        choices = λ k c N left_open width.
            let at = among_source (length rule.source - 1) k c left_open in
            let root : suc at.0 ≡ length rule.source = opens_root rule checked at.0 at.1 (record { place = k; class = c }) at.2 at.4 in
            let before : at.0 < length rule.source - 1 = at.3 in
            absurd (omega arith);
        terms = constant_values_fit rule typing constants checked typed fits;
      }

  pub target_given : (choices : List Number) → TargetChoicesFit rule typing choices → GivenFits rule typing rule.target (given_by typing constants choices rule)
  target_given choices chosen =
      record {
        constants = fits;
        choices = λ k c N left_open width.
            choice_ready N k choices (omega (arith, chosen.count, choice_within rule.target k c checked.target_choices left_open))
            (λ n here. chosen.widths k c N n (chooses left_open) width here);
        terms = constant_values_fit rule typing constants checked typed fits;
      }

-- the same for parts that are equal to these
pub GivenFits-at : (rule : Rule) (typing classes : List ℕ) (half : List Statement) (constants choices numbers chosen : List Number) (terms : List Value)
    → classes ≡ typing → numbers ≡ constants → chosen ≡ choices → terms ≡ constant_values typing constants rule
    → GivenFits rule typing half (given_by typing constants choices rule) → GivenFits rule classes half (record { constants = numbers; choices = chosen; terms = terms })
GivenFits-at rule typing classes half constants choices numbers chosen terms p q r s fits = rw (s, p, q, r) fits
