-- Which version digits spell, as code and definition have it.
use Rattle.rule_tokens.proofs.Common.{◌≡◌, ℕ, ◌==◌, true, false, List, Some, None, refl, ⊎_elim, find, eqb-true, found-passes, are_digits, Version, One, Two, decimal_value, version_number, versions, version_in}
use Rattle.rule_tokens.proofs.Steps.{chosen}

pub version_in-is : (text : List ℕ) (version : Version) → version_in text ≡ Some version → (are_digits text ≡ true) × (decimal_value text ≡ version_number version)
unfolding version_in
version_in-is text version e =
    let is_number = λ (v : Version). decimal_value text == version_number v in
    ⊎_elim
    (λ (h : (are_digits text ≡ true) × (find is_number versions ≡ Some version)). (h.0, eqb-true (decimal_value text) (version_number version) (found-passes is_number versions version h.1)))
    (λ (h : (are_digits text ≡ false) × (None ≡ Some version)). let never = h.1 in absurd cc)
    (chosen (are_digits text) (find is_number versions) None (Some version) e)

pub version_in-of : (text : List ℕ) (version : Version) → are_digits text ≡ true → decimal_value text ≡ version_number version → version_in text ≡ Some version
unfolding version_in
version_in-of text One digits number = rw (digits, number) refl
version_in-of text Two digits number = rw (digits, number) refl
