-- The series of numbers for things without a name.
use Rattle.ir_resolve.proofs.Common.{◌≡◌, ℕ, zero, suc, ◌+◌, ◌<◌, ◌≤◌, List, [], ◌∷◌, ◌++◌, map, take, length, get_or, None, Some, refl, sym, ap, ◌∙◌, arith, slice_get, take_more, map_push, length-map, length-take-le, Key, Definition, given, seen, seen_written, Name, Named, Numbered, identifiers_from}
use Rattle.ir_resolve.specs.declared.names.key.Key.TheVariants as keys

-- the next number behind things with these names
abbrev pub number_after : ℕ → List Name → ℕ
number_after n [] = n
number_after n (Some text ∷ names) = number_after n names
number_after n (None ∷ names) = number_after (suc n) names

pub identifiers_from-push : (n : ℕ) (names : List Name) (name : Name) → identifiers_from n (names ++ name ∷ []) ≡ identifiers_from n names ++ identifiers_from (number_after n names) (name ∷ [])
identifiers_from-push n [] name = refl
identifiers_from-push n (Some text ∷ names) name = ap (λ is. Named text ∷ is) (identifiers_from-push n names name)
identifiers_from-push n (None ∷ names) name = ap (λ is. Numbered n ∷ is) (identifiers_from-push (suc n) names name)

pub number_after-push : (n : ℕ) (names : List Name) (name : Name) → number_after n (names ++ name ∷ []) ≡ number_after (number_after n names) (name ∷ [])
number_after-push n [] name = refl
number_after-push n (Some text ∷ names) name = number_after-push n names name
number_after-push n (None ∷ names) name = number_after-push (suc n) names name

pub number_after-le : (n : ℕ) (names : List Name) → number_after n names ≤ n + length names
number_after-le n [] = omega arith
number_after-le n (Some text ∷ names) = let le = number_after-le n names in omega arith
number_after-le n (None ∷ names) = let le = number_after-le (suc n) names in omega arith

-- the key of a definition, and the next number behind it
pub next_numbered : (n m next : ℕ) (name : Name) (k : Key) → seen k ∷ [] ≡ identifiers_from n (name ∷ []) → k ≡ keys.Numbered m → next ≡ n + 1 → next ≡ number_after n (name ∷ [])
next_numbered n m next None k is numbered more = omega arith
next_numbered n m next (Some text) k is numbered more = cc

pub next_named : (n next : ℕ) (name : Name) (k : Key) → seen k ∷ [] ≡ identifiers_from n (name ∷ []) → ((m : ℕ) → ¬ (k ≡ keys.Numbered m)) → next ≡ n → next ≡ number_after n (name ∷ [])
next_named n next None (keys.Numbered m) is other same = absurd (other m refl)
next_named n next None (keys.Named text) is other same = cc
next_named n next (Some text) k is other same = same

-- the names of the first definitions
abbrev pub names_to : List Definition → ℕ → List Name
names_to definitions i = map given (map seen_written (take i definitions))

module _ (definitions : List Definition) (i : ℕ) (d : Definition) (lt : i < length definitions) (at : d ≡ get_or definitions i d) where
  names_more : names_to definitions (i + 1) ≡ names_to definitions i ++ given (seen_written d) ∷ []
  names_more =
      let more : take (i + 1) definitions ≡ take i definitions ++ d ∷ [] = take_more definitions i d lt ∙ ap (λ x. take i definitions ++ x ∷ []) (sym at) in
      ap (λ ds. map given (map seen_written ds)) more ∙ ap (map given) (map_push seen_written (take i definitions) d) ∙ map_push given (map seen_written (take i definitions)) (seen_written d)

  module _ (n : ℕ) (number : n ≡ number_after 0 (names_to definitions i)) where
    pub keys_more : (keys new : List Key) (key : Key) → map seen keys ≡ identifiers_from 0 (names_to definitions i) → seen key ∷ [] ≡ identifiers_from n (given (seen_written d) ∷ []) → new ≡ keys ++ key ∷ []
        → map seen new ≡ identifiers_from 0 (names_to definitions (i + 1))
    keys_more keys new key so_far here more =
        ap (map seen) more ∙ map_push seen keys key ∙ ap (λ is. is ++ seen key ∷ []) so_far
        ∙ ap (λ is. identifiers_from 0 (names_to definitions i) ++ is) (here ∙ ap (λ m. identifiers_from m (given (seen_written d) ∷ [])) number)
        ∙ sym (ap (identifiers_from 0) names_more ∙ identifiers_from-push 0 (names_to definitions i) (given (seen_written d)))

    pub next_more : (next : ℕ) → next ≡ number_after n (given (seen_written d) ∷ []) → next ≡ number_after 0 (names_to definitions (i + 1))
    next_more next is =
        is ∙ ap (λ m. number_after m (given (seen_written d) ∷ [])) number ∙ sym (ap (number_after 0) names_more ∙ number_after-push 0 (names_to definitions i) (given (seen_written d)))

    pub number-le : n ≤ i
    number-le =
        let most : number_after 0 (names_to definitions i) ≤ 0 + length (names_to definitions i) = number_after-le 0 (names_to definitions i) in
        let count : length (names_to definitions i) ≡ i = length-map (map seen_written (take i definitions)) given ∙ length-map (take i definitions) seen_written ∙ length-take-le i definitions (omega arith) in
        omega arith

-- the identifier at an index of the series
pub named_from : (n : ℕ) (names : List Name) (p : ℕ) (text : List ℕ) → slice_get names p ≡ Some (Some text) → slice_get (identifiers_from n names) p ≡ Some (Named text)
named_from n [] p text at = cc
named_from n (Some t ∷ names) zero text at = cc
named_from n (None ∷ names) zero text at = cc
named_from n (Some t ∷ names) (suc p) text at = named_from n names p text at
named_from n (None ∷ names) (suc p) text at = named_from (suc n) names p text at

pub named_back : (n : ℕ) (names : List Name) (p : ℕ) (text : List ℕ) → slice_get (identifiers_from n names) p ≡ Some (Named text) → slice_get names p ≡ Some (Some text)
named_back n [] p text at = cc
named_back n (Some t ∷ names) zero text at = cc
named_back n (None ∷ names) zero text at = cc
named_back n (Some t ∷ names) (suc p) text at = named_back n names p text at
named_back n (None ∷ names) (suc p) text at = named_back (suc n) names p text at

numbered_ge : (n : ℕ) (names : List Name) (p m : ℕ) → slice_get (identifiers_from n names) p ≡ Some (Numbered m) → n ≤ m
numbered_ge n [] p m at = cc
numbered_ge n (Some t ∷ names) zero m at = cc
numbered_ge n (None ∷ names) zero m at = let same : n ≡ m = cc in omega arith
numbered_ge n (Some t ∷ names) (suc p) m at = numbered_ge n names p m at
numbered_ge n (None ∷ names) (suc p) m at = let ge = numbered_ge (suc n) names p m at in omega arith

-- each number of the series is greater than those before it
pub numbered_lt : (n : ℕ) (names : List Name) (p q l m : ℕ) → p < q → slice_get (identifiers_from n names) p ≡ Some (Numbered l) → slice_get (identifiers_from n names) q ≡ Some (Numbered m) → l < m
numbered_lt n [] p q l m lt p_at q_at = cc
numbered_lt n (name ∷ names) p zero l m lt p_at q_at = omega arith
numbered_lt n (Some t ∷ names) zero (suc q) l m lt p_at q_at = cc
numbered_lt n (None ∷ names) zero (suc q) l m lt p_at q_at = let same : n ≡ l = cc in let ge = numbered_ge (suc n) names q m q_at in omega arith
numbered_lt n (Some t ∷ names) (suc p) (suc q) l m lt p_at q_at = numbered_lt n names p q l m (omega arith) p_at q_at
numbered_lt n (None ∷ names) (suc p) (suc q) l m lt p_at q_at = numbered_lt (suc n) names p q l m (omega arith) p_at q_at
