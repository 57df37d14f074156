-- Lists to which an item is appended, or that are truncated again.
use Rattle.ir_tokens.proofs.Common.{◌≡◌, ℕ, Bool, true, false, not, List, [], ◌∷◌, ◌++◌, length, sym, ap, ◌∙◌, append_assoc, false≢true, if◌then◌else◌, take, take-append_seam}

module _ {A : Type 0} where
  -- an append that succeeds, and one that is refused memory
  pub pushed : {is_ok is_err : Bool} (old new : List A) (x : A) → is_ok ≡ not is_err → is_err ≡ false → new ≡ (if is_ok then old ++ x ∷ [] else old) → new ≡ old ++ x ∷ []
  pushed {is_ok = true} old new x other held items = items
  pushed {is_ok = false} {is_err = true} old new x other held items = absurd (false≢true (sym held))
  pushed {is_ok = false} {is_err = false} old new x other held items = absurd (false≢true other)

  pub kept : {is_ok is_err : Bool} (old new : List A) (x : A) → is_ok ≡ not is_err → is_err ≡ true → new ≡ (if is_ok then old ++ x ∷ [] else old) → new ≡ old
  kept {is_ok = false} old new x other refused items = items
  kept {is_ok = true} {is_err = true} old new x other refused items = absurd (false≢true (sym other))
  kept {is_ok = true} {is_err = false} old new x other refused items = absurd (false≢true refused)

  -- one more item behind those that were appended
  pub one_more : (old taken some new : List A) (x : A) → some ≡ old ++ taken → new ≡ some ++ x ∷ [] → new ≡ old ++ (taken ++ x ∷ [])
  one_more old taken some new x are more = more ∙ ap (λ l. l ++ x ∷ []) are ∙ append_assoc old taken (x ∷ [])

  -- truncating a list to its old length undoes all appends
  pub cut : (old taken some new : List A) (count : ℕ) → count ≡ length old → some ≡ old ++ taken → new ≡ take count some → new ≡ old
  cut old taken some new count is_count are is = is ∙ ap (λ k. take k some) is_count ∙ ap (λ l. take (length old) l) are ∙ take-append_seam old taken
