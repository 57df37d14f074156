-- Things that are read one behind the other: one more is read.
use Rattle.blast_setting.proofs.Common.{◌≡◌, ℕ, ◌+◌, ◌<◌, ◌≤◌, Bool, List, [], ◌∷◌, ◌++◌, length, take, drop, Some, sym, ap, ◌∙◌, append_assoc, append-nil, slice_get, sum_by, take_more, take_all, drop_all, drop-drop, sum_by_push, slice_get_within, get_or_from_slice_get, all_read}
use Rattle.blast_setting.proofs.Written.{all_read-next}

module _ {X : Type 0} (one : ℕ → List Bool → X) (size : ℕ → ℕ) (widths : List ℕ) (bits : List Bool) where
  -- the first k things are these, and the rest of the list is what is behind them
  pub record ReadSoFar (xs : List X) (k : ℕ) (rest : List Bool) : Type 0 where
    pub read : all_read one size widths bits ≡ xs ++ all_read one size (drop k widths) rest
    pub behind : rest ≡ drop (sum_by size (take k widths)) bits

  pub read_more : (xs : List X) (k N : ℕ) (rest : List Bool) → slice_get widths k ≡ Some N → ReadSoFar xs k rest → ReadSoFar (xs ++ one N rest ∷ []) (k + 1) (drop (size N) rest)
  read_more xs k N rest at before =
      let within : k < length widths = slice_get_within widths k N at in
      let more : take (k + 1) widths ≡ take k widths ++ N ∷ [] = take_more widths k N within ∙ ap (λ n. take k widths ++ n ∷ []) (get_or_from_slice_get widths k N N at) in
      record {
        read = before.read ∙ ap (λ ys. xs ++ ys) (all_read-next one size widths k N rest at) ∙ sym (append_assoc xs (one N rest ∷ []) (all_read one size (drop (k + 1) widths) (drop (size N) rest)));
        behind = ap (drop (size N)) before.behind ∙ drop-drop (size N) (sum_by size (take k widths)) bits ∙ ap (λ n. drop n bits) (sym (ap (sum_by size) more ∙ sum_by_push size (take k widths) N));
      }

  pub read_next : (xs ys : List X) (x : X) (k N count : ℕ) (rest after : List Bool) → slice_get widths k ≡ Some N → ReadSoFar xs k rest → x ≡ one N rest → ys ≡ xs ++ x ∷ [] → count ≡ size N → after ≡ drop count rest → ReadSoFar ys (k + 1) after
  read_next xs ys x k N count rest after at before is pushed same moved = rw (pushed, is, moved, same) (read_more xs k N rest at before)

  pub read_all : (xs : List X) (k : ℕ) (rest : List Bool) → ReadSoFar xs k rest → length widths ≤ k → xs ≡ all_read one size widths bits
  read_all xs k rest before all = sym (before.read ∙ ap (λ ws. xs ++ all_read one size ws rest) (drop_all k widths all) ∙ append-nil xs)

  pub behind_all : (xs : List X) (k : ℕ) (rest : List Bool) → ReadSoFar xs k rest → length widths ≤ k → rest ≡ drop (sum_by size widths) bits
  behind_all xs k rest before all = before.behind ∙ ap (λ ws. drop (sum_by size ws) bits) (take_all k widths all)
