use Rattle.scan.proofs.Common.{◌≡◌, List, ℕ, true, sym, ◌∙◌, subst, Contains, unquoted}
use Rattle.scan.proofs.QuotedLemmas.{zero_contained, zero_found}
use Rattle.scan.proofs.ir.quoted.holds_zero.Goals as goal

pub returns : goal.returns
returns c = subst (λ (inner : List ℕ). ((c.has_zero.result ≡ true) → Contains (unquoted inner) 0) × (Contains (unquoted inner) 0 → (c.has_zero.result ≡ true))) c.in_quotes.ensures.value
    (λ (e : c.has_zero.result ≡ true). zero_contained (unquoted c.in_quotes.result.now) (sym c.has_zero.ensures ∙ e), λ (h : Contains (unquoted c.in_quotes.result.now) 0). c.has_zero.ensures ∙ zero_found (unquoted c.in_quotes.result.now) h)
