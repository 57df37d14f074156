-- Definitions and their keys, by index.
use Rattle.ir_resolve.proofs.Common.{◌≡◌, ℕ, suc, ◌<◌, List, [], ◌∷◌, map, length, get_or, Option, None, Some, refl, sym, ap, subst, ◌∙◌, slice_get, option_map, length-map, slice_get-map, slice_get-get_or, Name, identifiers_from, RawIdentifier, Key, Definition, IsFirst, given, called_in, IsMisnumbered, MisnumbersHere, seen, seen_written, AreKeysOf}
use Rattle.ir_resolve.proofs.Firsts.{first_same}

pub length-identifiers_from : (n : ℕ) (names : List Name) → length (identifiers_from n names) ≡ length names
length-identifiers_from n [] = refl
length-identifiers_from n (Some text ∷ names) = ap suc (length-identifiers_from n names)
length-identifiers_from n (None ∷ names) = ap suc (length-identifiers_from (suc n) names)

seen_at : {X Y : Type 0} (f : X → Y) (xs : List X) (i : ℕ) (d : X) → i < length xs → slice_get (map f xs) i ≡ Some (f (get_or xs i d))
seen_at f xs i d lt = slice_get-map f xs i ∙ ap (option_map f) (slice_get-get_or xs i d lt)

module _ (definitions : List Definition) (keys : List Key) (are_keys : AreKeysOf definitions keys) where
  abbrev written : List (Option RawIdentifier)
  written = map seen_written definitions

  pub length-keys : length keys ≡ length definitions
  length-keys =
      sym (length-map keys seen) ∙ ap length are_keys ∙ length-identifiers_from 0 (map given written) ∙ length-map written given ∙ length-map definitions seen_written

  module _ (i : ℕ) (d : Definition) (k : Key) (lt : i < length definitions) where
    pub written_at : slice_get written i ≡ Some (seen_written (get_or definitions i d))
    written_at = seen_at seen_written definitions i d lt

    pub called_at : slice_get (called_in written) i ≡ Some (seen (get_or keys i k))
    called_at = ap (λ ids. slice_get ids i) (sym are_keys) ∙ seen_at seen keys i k (subst (λ n. i < n) (sym length-keys) lt)

    pub misnumbered_here : (here : Option ℕ) → IsFirst (IsMisnumbered (seen_written (get_or definitions i d)) (seen (get_or keys i k))) here → IsFirst (MisnumbersHere written i) here
    misnumbered_here here first =
        let w' = seen_written (get_or definitions i d) in
        let x' = seen (get_or keys i k) in
        first_same (IsMisnumbered w' x') (MisnumbersHere written i)
        (λ line mis. (w', x', written_at, called_at, mis))
        (λ line (w, x, w_at, x_at, mis).
        let same_written : w ≡ w' = cc (w_at, written_at) in
        let same_key : x ≡ x' = cc (x_at, called_at) in
        subst (λ y. IsMisnumbered w' y line) same_key (subst (λ y. IsMisnumbered y x line) same_written mis))
        here first
