-- Which proofs the keys in the set are of.
use Rattle.proof_reader.proofs.Common.{◌≡◌, ℕ, zero, suc, Bool, true, false, List, [], ◌∷◌, ◌++◌, map, Some, refl, sym, ap, subst, ◌∙◌, nat_eq, arith, ◌||◌, not, slice_get, Decides, list_any, bytes_eq, Decides-and, Decides-eqb, same_Some, bytes_eq-Decides, Rule, AreDistinct, Proof, HasNameAt, IsAmong, Key, is_same_key, AreKeysOf}
use Rattle.proof_reader.proofs.RuleNames.{name_at}

decided : (x y : Key) → Decides (is_same_key x y) ((x.0 ≡ y.0) × (x.1.items ≡ y.1.items))
decided x y = Decides-and (nat_eq x.0 y.0) (bytes_eq x.1.items y.1.items) (Decides-eqb x.0 y.0) (bytes_eq-Decides x.1.items y.1.items)

-- the rule at a place has one name
one_name : (rules : List Rule) (place other : ℕ) (name called : List ℕ) → place ≡ other → HasNameAt rules place name → HasNameAt rules other called → name ≡ called
one_name rules place other name called e (r, at, is) (q, there, same) =
    let rule : r ≡ q = same_Some r q (sym at ∙ subst (λ (n : ℕ). slice_get rules n ≡ Some q) (sym e) there) in
    sym is ∙ (ap (λ (x : Rule). x.name) rule ∙ same)

-- a name is that of the rule at one place
one_place : (rules : List Rule) (place other : ℕ) (name : List ℕ) → AreDistinct (map (λ (r : Rule). r.name) rules) → HasNameAt rules place name → HasNameAt rules other name → place ≡ other
one_place rules place other name distinct (r, at, is) (q, there, same) =
    distinct place other name (name_at rules place r at ∙ ap (λ (n : List ℕ). Some n) is) (name_at rules other q there ∙ ap (λ (n : List ℕ). Some n) same)

module _ (rules : List Rule) (proof : Proof) (key : Key) (named : HasNameAt rules key.0 proof.name) (widths : key.1.items ≡ proof.widths) where
  -- where the set has the key, a proof of the pair is among these
  pub found : (earlier : List Proof) (keys : List Key) → AreKeysOf rules earlier keys → list_any (is_same_key key) keys ≡ true → IsAmong earlier proof
  found [] [] are has = cc
  found [] (k ∷ keys) are has = absurd are
  found (p ∷ earlier) [] are has = absurd are
  found (p ∷ earlier) (k ∷ keys) are has = go (is_same_key key k) refl (λ later. found earlier keys are.1 later) has
    where
      go : (b : Bool) → is_same_key key k ≡ b → (list_any (is_same_key key) keys ≡ true → IsAmong earlier proof) → (b || list_any (is_same_key key) keys) ≡ true → IsAmong (p ∷ earlier) proof
      go true is among has =
          let same = (decided key k).0 is in
          (zero, p, omega arith, refl, (sym (one_name rules key.0 k.0 proof.name p.name same.0 named are.0.0), sym are.0.1 ∙ (sym same.1 ∙ widths)))
      go false is among has = let (n, other, within, at, h) = among has in (suc n, other, omega arith, at, h)

  -- where it does not, none is
  pub lost : AreDistinct (map (λ (r : Rule). r.name) rules) → (earlier : List Proof) (keys : List Key) → AreKeysOf rules earlier keys → list_any (is_same_key key) keys ≡ false → IsAmong earlier proof → ⊥
  lost distinct [] keys are has (n, other, within, at, h) = omega arith
  lost distinct (p ∷ earlier) [] are has among = are
  lost distinct (p ∷ earlier) (k ∷ keys) are has (zero, other, within, at, h) =
      let is : p ≡ other = at in
      let name : p.name ≡ proof.name = ap (λ (x : Proof). x.name) is ∙ h.0 in
      let place : key.0 ≡ k.0 = one_place rules key.0 k.0 proof.name distinct named (subst (λ (n : List ℕ). HasNameAt rules k.0 n) name are.0.0) in
      let items : key.1.items ≡ k.1.items = widths ∙ sym (are.0.1 ∙ (ap (λ (x : Proof). x.widths) is ∙ h.1)) in
      not_first (is_same_key key k) (list_any (is_same_key key) keys) ((decided key k).1 (place, items)) has
    where
      not_first : (a b : Bool) → a ≡ true → (a || b) ≡ false → ⊥
      not_first true b is none = absurd cc
      not_first false b is none = absurd cc
  lost distinct (p ∷ earlier) (k ∷ keys) are has (suc n, other, within, at, h) = lost distinct earlier keys are.1 (not_later (is_same_key key k) (list_any (is_same_key key) keys) has) (n, other, omega arith, at, h)
    where
      not_later : (a b : Bool) → (a || b) ≡ false → b ≡ false
      not_later true b none = absurd cc
      not_later false b none = none

-- the key of one more proof is appended
pub keys_more : (rules : List Rule) (earlier : List Proof) (keys : List Key) (proof : Proof) (key : Key) → AreKeysOf rules earlier keys → HasNameAt rules key.0 proof.name → key.1.items ≡ proof.widths
    → AreKeysOf rules (earlier ++ proof ∷ []) (keys ++ key ∷ [])
keys_more rules [] [] proof key are named widths = ((named, widths), tt)
keys_more rules [] (k ∷ keys) proof key are named widths = absurd are
keys_more rules (p ∷ earlier) [] proof key are named widths = absurd are
keys_more rules (p ∷ earlier) (k ∷ keys) proof key are named widths = (are.0, keys_more rules earlier keys proof key are.1 named widths)

-- whether `insert` said that the key was new says whether the set did not have it
pub lacked : (found new : Bool) → new ≡ not found → new ≡ true → found ≡ false
lacked true new is h = absurd cc
lacked false new is h = refl

pub had : (found new : Bool) → new ≡ not found → new ≡ false → found ≡ true
had true new is h = refl
had false new is h = absurd cc
