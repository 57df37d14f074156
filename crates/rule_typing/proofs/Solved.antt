-- Solutions over the sets of widths that classes may have are typings.
use Rattle.rule_typing.proofs.Common.{◌≡◌, ◌⊎◌, ℕ, ◌<◌, List, length, Some, subst, arith, slice_get, slice_index, Contains, slice_get-get_or, slice_get_within, get_or_from_slice_get, Rule, Fixed, IsTyping, Widths, IsClassified, HasClasses, MayHaveWidth, MayChoose, IsListed, HasExactly, MeetsSmaller, Solves}
use Rattle.rule_typing.proofs.Begun.{some_at}
use Rattle.rule_typing.proofs.Typed.{typed, count_widths, may_have}

pub typing_from : (rule : Rule) (n : ℕ) (typing : List ℕ) → IsClassified rule → HasClasses rule n → length typing ≡ n → ((c : ℕ) → c < n → MayHaveWidth rule c (slice_index typing c)) → MeetsSmaller rule typing
    → IsTyping rule typing
typing_from rule n typing classified counted count may below =
    typed rule typing n classified counted count
    (λ c N at. let within : c < length typing = slice_get_within typing c N at in subst (MayHaveWidth rule c) (get_or_from_slice_get typing c N 0 at) (may c (omega arith)))
    below

pub typing_may : (rule : Rule) (n : ℕ) (typing : List ℕ) → HasClasses rule n → IsTyping rule typing → (c : ℕ) → c < n → MayHaveWidth rule c (slice_index typing c)
typing_may rule n typing counted is c less =
    may_have rule typing is c (slice_index typing c) (slice_get-get_or typing c 0 (omega (arith, count_widths rule typing n counted is)))

-- where each set holds only widths that its class may have
module _ (rule : Rule) (sets : List Widths) (Fits : ℕ → ℕ → Type 0) (classified : IsClassified rule) (counted : HasClasses rule (length sets)) (may : (c N : ℕ) → Fits c N → MayHaveWidth rule c N)
    (exact : (c : ℕ) (set : Widths) → slice_get sets c ≡ Some set → HasExactly set (Fits c)) where
  pub fitting : (typing : List ℕ) → Solves rule sets typing → (c : ℕ) → c < length sets → Fits c (slice_index typing c)
  fitting typing solves c less = let (set, at) = some_at sets c less in (exact c set at (slice_index typing c)).0 (solves.chosen.each c set at)

  pub typing_of : (typing : List ℕ) → Solves rule sets typing → IsTyping rule typing
  typing_of typing solves = typing_from rule (length sets) typing classified counted solves.chosen.count (λ c less. may c (slice_index typing c) (fitting typing solves c less)) solves.smaller

  pub solves_of : (typing : List ℕ) → IsTyping rule typing → ((c : ℕ) → c < length sets → Fits c (slice_index typing c)) → Solves rule sets typing
  solves_of typing is fits = record {
    chosen = record {
      count = count_widths rule typing (length sets) counted is;
      each = λ c set at. (exact c set at (slice_index typing c)).1 (fits c (slice_get_within sets c set at));
    };
    smaller = is.smaller;
  }

  -- widths are at most 64
  pub at_most_64 : (typing : List ℕ) → Solves rule sets typing → (c : ℕ) → c < length sets → slice_index typing c < 65
  at_most_64 typing solves c less = let h = may c (slice_index typing c) (fitting typing solves c less) in omega (arith, h.within.1)

-- where each set holds the widths that are fixed or listed
module _ (rule : Rule) (widths : List ℕ) (sets : List Widths) (classified : IsClassified rule) (counted : HasClasses rule (length sets))
    (exact : (c : ℕ) (set : Widths) → slice_get sets c ≡ Some set → HasExactly set (MayChoose rule widths c)) where
  may_choose : (c N : ℕ) → MayChoose rule widths c N → MayHaveWidth rule c N
  may_choose c N chosen = chosen.1

  pub listed_of : (typing : List ℕ) → Solves rule sets typing → IsListed rule widths typing
  listed_of typing solves = record {
    typed = typing_of rule sets (MayChoose rule widths) classified counted may_choose exact typing solves;
    chosen = λ c N at.
        let within : c < length typing = slice_get_within typing c N at in
        subst (λ M. Fixed rule c M ⊎ Contains widths M) (get_or_from_slice_get typing c N 0 at)
        (fitting rule sets (MayChoose rule widths) classified counted may_choose exact typing solves c (omega (arith, solves.chosen.count))).0;
  }

  pub of_listed : (typing : List ℕ) → IsListed rule widths typing → Solves rule sets typing
  of_listed typing listed =
      let count : length typing ≡ length sets = count_widths rule typing (length sets) counted listed.typed in
      solves_of rule sets (MayChoose rule widths) classified counted may_choose exact typing listed.typed
      (λ c less. (listed.chosen c (slice_index typing c) (slice_get-get_or typing c 0 (omega arith)), typing_may rule (length sets) typing counted listed.typed c less))

  pub choices_at_most_64 : (typing : List ℕ) → Solves rule sets typing → (c : ℕ) → c < length sets → slice_index typing c < 65
  choices_at_most_64 = at_most_64 rule sets (MayChoose rule widths) classified counted may_choose exact
