-- What a circuit that keeps its older literals keeps of a word of them.
use Rattle.circuits.proofs.Common.{ℕ, ◌+◌, ◌≤◌, get_or, subst, sym, ◌≡◌, suc, ◌<◌, Bool, List, [], ◌∷◌, map, length, refl, ◌∙◌, arith, All, Ghosts, Keeps, Adds}

pub All-kept : {C L : Type 0} {state : Ghosts C L} {old new : C} → Keeps state old new → (word : List L) → All (state.has_literal old) word → All (state.has_literal new) word
All-kept keeps word own k d below = keeps.literals _ (own k d below)

pub map-kept : {C L : Type 0} {state : Ghosts C L} {old new : C} → Keeps state old new → (inputs : List Bool) → state.admits old inputs → (word : List L) → All (state.has_literal old) word → map (state.value new inputs) word ≡ map (state.value old inputs) word
map-kept keeps inputs admitted [] own = refl
map-kept keeps inputs admitted (l ∷ word) own =
    let first = keeps.values inputs l admitted (own 0 l (omega arith)) in
    let rest = map-kept keeps inputs admitted word (λ k d below. own (suc k) d (omega arith)) in
    cc

pub map-known : {C L : Type 0} {state : Ghosts C L} {old new : C} → Keeps state old new → (inputs : List Bool) (word : List L) → All (state.has_literal old) word → map (state.known new inputs) word ≡ map (state.known old inputs) word
map-known keeps inputs [] own = refl
map-known keeps inputs (l ∷ word) own =
    let first = keeps.known inputs l (own 0 l (omega arith)) in
    let rest = map-known keeps inputs word (λ k d below. own (suc k) d (omega arith)) in
    cc

pub Keeps-trans : {C L : Type 0} {state : Ghosts C L} {old mid new : C} → Keeps state old mid → Keeps state mid new → Keeps state old new
Keeps-trans {old = old} {mid = mid} {new = new} k h = record {
  literals = λ l own. h.literals l (k.literals l own);
  admitted = λ inputs p. h.admitted inputs (k.admitted inputs p);
  admits_no_more = λ inputs p. k.admits_no_more inputs (h.admits_no_more inputs p);
  values = λ inputs l p own. h.values inputs l (k.admitted inputs p) (k.literals l own) ∙ k.values inputs l p own;
  known = λ inputs l own. h.known inputs l (k.literals l own) ∙ k.known inputs l own;
}

pub Keeps-refl : {C L : Type 0} {state : Ghosts C L} {now : C} → Keeps state now now
Keeps-refl = record {
  literals = λ l own. own;
  admitted = λ inputs p. p;
  admits_no_more = λ inputs p. p;
  values = λ inputs l p own. refl;
  known = λ inputs l own. refl;
}

-- where nothing was added
pub Adds-refl : {C L : Type 0} {state : Ghosts C L} {now : C} → Adds state now now 0
Adds-refl = record { inputs = refl; gates = omega arith; keeps = Keeps-refl }

-- one after the other, the gates add up
pub Adds-trans : {C L : Type 0} {state : Ghosts C L} {old mid new : C} {m n : ℕ} → Adds state old mid m → Adds state mid new n → Adds state old new (m + n)
Adds-trans first then = record { inputs = then.inputs ∙ first.inputs; gates = omega arith; keeps = Keeps-trans first.keeps then.keeps }

-- what adds no more than so many gates adds no more than some more
pub Adds-weaken : {C L : Type 0} {state : Ghosts C L} {old new : C} {m n : ℕ} → Adds state old new m → m ≤ n → Adds state old new n
Adds-weaken adds fewer = record { inputs = adds.inputs; gates = omega arith; keeps = adds.keeps }

-- an element of a word that is the circuit's
pub own_at : {L : Type 0} (P : L → Type 0) (a : List L) (i : ℕ) (x : L) → All P a → i < length a → x ≡ get_or a i x → P x
own_at P a i x own below e = subst P (sym e) (own i x below)

-- where nothing was added yet
pub Adds-none : {C L : Type 0} {state : Ghosts C L} {now : C} {n : ℕ} → Adds state now now n
Adds-none = Adds-weaken Adds-refl (omega arith)
