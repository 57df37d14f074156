-- The tokens of one entry, read one by one.
use Rattle.ir_tokens.proofs.Common.{◌≡◌, ℕ, ◌<◌, ◌≤◌, Bool, false, List, [], ◌∷◌, ◌++◌, length, take, Option, inl, inr, refl, sym, ap, subst, ◌∙◌, arith, cases_lt, take_all, take-append-le, length-append, fold-append, Section, AtEntry, InHeader, InBody, place_behind, place_behind_all, MayBegin, IsOneEntry, Placed}

-- no entry may begin behind any of these tokens, and `behind` is the context behind them all
pub record Within (place : Section) (tokens : List Placed) (behind : Section) : Type 0 where
  pub is_behind : behind ≡ place_behind_all place tokens
  pub within : (k : ℕ) → 0 < k → k ≤ length tokens → ¬ MayBegin (place_behind_all place (take k tokens))

pub none_taken : (place : Section) → Within place [] place
none_taken place = record { is_behind = refl; within = λ k some le. absurd (omega arith) }

more_behind : (place behind : Section) (tokens : List Placed) (t : Placed) → behind ≡ place_behind_all place tokens → place_behind behind t ≡ place_behind_all place (tokens ++ t ∷ [])
more_behind place behind tokens t is = ap (λ p. place_behind p t) is ∙ sym (fold-append place_behind place tokens (t ∷ []))

before_last : (place : Section) (tokens : List Placed) (t : Placed) (behind : Section) → Within place tokens behind
    → (k : ℕ) → 0 < k → k ≤ length tokens → ¬ MayBegin (place_behind_all place (take k (tokens ++ t ∷ [])))
before_last place tokens t behind h k some le = subst (λ l. ¬ MayBegin (place_behind_all place l)) (sym (take-append-le k tokens (t ∷ []) le)) (h.within k some le)

-- one more token, behind which an entry may begin or the text ends
pub ends_with : (place behind : Section) (tokens new : List Placed) (t : Placed) (ends : Bool) → Within place tokens behind → new ≡ tokens ++ t ∷ [] → (ends ≡ false → MayBegin (place_behind behind t)) → IsOneEntry place new ends
ends_with place behind tokens new t ends h is may = subst (λ l. IsOneEntry place l ends) (sym is) (
    record {
      some = omega (arith, length-append tokens (t ∷ []));
      before = λ k some less. before_last place tokens t behind h k some (omega (arith, length-append tokens (t ∷ [])));
      behind = λ goes. subst MayBegin (more_behind place behind tokens t h.is_behind) (may goes);
    }
    )

pub none_begins : (place : Section) → ((before : Option ℕ) → place ≡ AtEntry before → ⊥) → ¬ MayBegin place
none_begins (AtEntry before) not_there may = not_there before refl
none_begins (InHeader word) not_there may = may
none_begins (InBody word) not_there may = may

-- one more token, behind which no entry may begin
pub goes_on_with : (place behind : Section) (tokens new : List Placed) (t : Placed) → Within place tokens behind → new ≡ tokens ++ t ∷ [] → ¬ MayBegin (place_behind behind t) → Within place new (place_behind behind t)
goes_on_with place behind tokens new t h is none = subst (λ l. Within place l (place_behind behind t)) (sym is) (
    record {
      is_behind = more_behind place behind tokens t h.is_behind;
      within = λ k some le. elim (cases_lt (length tokens) k) [
        | inr early ↦ before_last place tokens t behind h k some early
        | inl all ↦ λ may. none
            (
            subst MayBegin (sym (more_behind place behind tokens t h.is_behind))
            (subst (λ l. MayBegin (place_behind_all place l)) (take_all k (tokens ++ t ∷ []) (omega (arith, length-append tokens (t ∷ [])))) may)
            )
      ];
    }
    )
