-- The map of rules by their names, as it is filled.
use Rattle.proof_reader.proofs.Common.{◌≡◌, inl, inr, ℕ, zero, suc, ◌+◌, ◌<◌, Bool, true, false, cond, List, [], ◌∷◌, length, take, get_or, Option, Some, None, sym, ap, subst, ◌∙◌, arith, slice_get, MatchOption, map, bytes_eq, cases_lt, false≢true, slice_get-get_or, same_Some, slice_get_within, bytes_eq-Decides, Rule, AreDistinct, Proof, HasNameAt, IsNamed, IsRuleOf}

at_take : {X : Type 0} (n : ℕ) (xs : List X) (k : ℕ) (x : X) → slice_get (take n xs) k ≡ Some x → (k < n) × (slice_get xs k ≡ Some x)
at_take zero xs k x at = absurd (let none : k < 0 = slice_get_within [] k x at in omega arith)
at_take (suc n) [] k x at = absurd (let none : k < 0 = slice_get_within [] k x at in omega arith)
at_take (suc n) (y ∷ xs) zero x at = (omega arith, at)
at_take (suc n) (y ∷ xs) (suc k) x at = let rest = at_take n xs k x at in (omega (arith, rest.0), rest.1)

take_at : {X : Type 0} (n : ℕ) (xs : List X) (k : ℕ) (x : X) → k < n → slice_get xs k ≡ Some x → slice_get (take n xs) k ≡ Some x
take_at zero xs k x lt at = absurd (omega arith)
take_at (suc n) [] k x lt at = at
take_at (suc n) (y ∷ xs) zero x lt at = at
take_at (suc n) (y ∷ xs) (suc k) x lt at = take_at n xs k x (omega arith) at

pub read_at : {X : Type 0} (xs : List X) (k : ℕ) (x : X) → k < length xs → x ≡ get_or xs k x → slice_get xs k ≡ Some x
read_at xs k x within is = slice_get-get_or xs k x within ∙ ap (λ y. Some y) (sym is)

-- what the map has for a name
abbrev pub Known : List Rule → List ℕ → Option ℕ → Type 0
Known rules name found = MatchOption found (¬ IsNamed rules name) (λ place. HasNameAt rules place name)

pub known_none : (name : List ℕ) → Known [] name None
known_none name = λ (p, (r, at, is)). absurd (let none : p < 0 = slice_get_within [] p r at in omega arith)

pub known_more : (rules : List Rule) (i : ℕ) (rule : Rule) (key name : List ℕ) (old : Option ℕ) → slice_get rules i ≡ Some rule → key ≡ rule.name → Known (take i rules) name old
    → (b : Bool) → b ≡ bytes_eq key name → Known (take (i + 1) rules) name (cond b (Some i) old)
known_more rules i rule key name old here key_is known true e =
    (rule, take_at (i + 1) rules i rule (omega arith) here, sym key_is ∙ (bytes_eq-Decides key name).0 (sym e))
known_more rules i rule key name None here key_is known false e = λ (p, (r, at, is)).
    let (lt, at') = at_take (i + 1) rules p r at in
    elim (cases_lt p i) [
      | inl before ↦ known (p, (r, take_at i rules p r before at', is))
      | inr after ↦
          let place : p ≡ i = omega arith in
          let same : rule ≡ r = same_Some rule r (sym here ∙ subst (λ (n : ℕ). slice_get rules n ≡ Some r) place at') in
          absurd (false≢true (e ∙ (bytes_eq-Decides key name).1 (key_is ∙ (ap (λ (x : Rule). x.name) same ∙ is))))
    ]
known_more rules i rule key name (Some p) here key_is known false e =
    let (r, at, is) = known in
    let (lt, at') = at_take i rules p r at in
    (r, take_at (i + 1) rules p r (omega arith) at', is)

pub name_at : (rules : List Rule) (k : ℕ) (rule : Rule) → slice_get rules k ≡ Some rule → slice_get (map (λ (r : Rule). r.name) rules) k ≡ Some rule.name
name_at [] k rule at = absurd (let none : k < 0 = slice_get_within [] k rule at in omega arith)
name_at (r ∷ rules) zero rule at = ap (λ (x : Rule). Some x.name) (same_Some r rule at)
name_at (r ∷ rules) (suc k) rule at = name_at rules k rule at

-- where all rules have different names, the rule with the proof's name is one
pub same_rule : (rules : List Rule) (proof : Proof) (place : ℕ) (rule other : Rule) → AreDistinct (map (λ (r : Rule). r.name) rules) → slice_get rules place ≡ Some rule → rule.name ≡ proof.name → IsRuleOf rules proof other → rule ≡ other
same_rule rules proof place rule other distinct at named ((q, there), other_named) =
    let one : slice_get (map (λ (r : Rule). r.name) rules) place ≡ Some proof.name = name_at rules place rule at ∙ ap (λ (n : List ℕ). Some n) named in
    let two : slice_get (map (λ (r : Rule). r.name) rules) q ≡ Some proof.name = name_at rules q other there ∙ ap (λ (n : List ℕ). Some n) other_named in
    let place_is : place ≡ q = distinct place q proof.name one two in
    same_Some rule other (sym at ∙ subst (λ (n : ℕ). slice_get rules n ≡ Some other) (sym place_is) there)
