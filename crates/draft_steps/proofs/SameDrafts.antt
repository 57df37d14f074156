-- Drafts that differ in use lists alone have the same instructions.
use Rattle.draft_steps.proofs.Common.{◌≡◌, ℕ, Bool, List, [], sym, ap, subst, ◌∙◌, Contains, slice_index_or, Stands, numbers_of, standing, IsSameDraft, Draft}

module _ (old new : Draft) (same : IsSameDraft old new) where
  pub same_numbers : numbers_of new ≡ numbers_of old
  same_numbers = ap (λ (s : List (List Bool)). standing s new.orders.items) same.stand ∙ ap (λ (o : List (List ℕ)). standing old.stand.items o) same.orders

  pub stays : (b n : ℕ) → Stands old b n → Stands new b n
  stays b n = subst (λ (rows : List (List ℕ)). Contains (slice_index_or rows b []) n) (sym same_numbers)

  pub stood : (b n : ℕ) → Stands new b n → Stands old b n
  stood b n = subst (λ (rows : List (List ℕ)). Contains (slice_index_or rows b []) n) same_numbers
