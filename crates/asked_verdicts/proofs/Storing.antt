-- The stored logs, as one more is stored.
use Rattle.asked_verdicts.proofs.Common.{◌≡◌, ℕ, Bool, true, false, List, refl, sym, ap, ◌∙◌, nat_eq, ◌&&◌, ◌≢◌, Decides, lookup, KeepsOthers, bytes_eq, Decides-and, Decides-eqb, Decides-like, bytes_eq-Decides, Pair, Key, pair_of_key, is_key_of}

-- equality of keys, as the table tests it
abbrev pub key_eq : Key → Key → Bool
key_eq x y = nat_eq x.0 y.0 && bytes_eq x.1.items y.1.items

pub decided : (p : Pair) (y : Key) → Decides (is_key_of p y) (p ≡ pair_of_key y)
decided p y =
    Decides-like (is_key_of p y) (λ h. ap (λ (n : ℕ). (n, p.1)) h.0 ∙ ap (λ (l : List ℕ). (y.0, l)) h.1) (λ e. (ap (λ (q : Pair). q.0) e, ap (λ (q : Pair). q.1) e))
    (Decides-and (nat_eq p.0 y.0) (bytes_eq p.1 y.1.items) (Decides-eqb p.0 y.0) (bytes_eq-Decides p.1 y.1.items))

-- a key of another pair is found to be one
not_key : (p : Pair) (y : Key) → ¬ (p ≡ pair_of_key y) → is_key_of p y ≡ false
not_key p y other = by (is_key_of p y) refl
  where
    by : (b : Bool) → is_key_of p y ≡ b → b ≡ false
    by true is = absurd (other ((decided p y).0 is))
    by false is = refl

-- what is stored for other pairs than the key's stays
pub others_stay : {X : Type 0} (key : Key) (old new : List (Key × X)) (p : Pair) → KeepsOthers key_eq (key_eq key) old new → p ≢ pair_of_key key
    → lookup (is_key_of p) new ≡ lookup (is_key_of p) old
unfolding KeepsOthers
others_stay key old new p keeps other =
    keeps (is_key_of p) (λ x y is. ap (λ (q : Pair). is_key_of q y) ((decided p x).0 is))
    (λ k is. not_key p k (λ same. other (same ∙ sym ((decided (pair_of_key key) k).0 is))))
