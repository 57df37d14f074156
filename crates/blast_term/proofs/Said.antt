-- What a node says of the bits of registers, told from the literals of what it reads.
use Rattle.blast_term.proofs.Common.{◌≡◌, ℕ, zero, suc, ◌+◌, ◌<◌, ◌≤◌, ◌==◌, Bool, true, false, not, ◌&&◌, ◌||◌, nat_lt, if◌then◌else◌, List, [], ◌∷◌, ◌++◌, length, map, take, get_or, Some, refl, sym, ap, ◌∙◌, arith, bit_and, slice_get, slice_index, list_all, option_map, lt-ltb, ne_eqb, take_more, slice_get-map, get_or_from_slice_get, bits, Poison, any_gates, number_of, Formula, Register, has_no_bit_of, is_not_zero, fact_holds, Held, held_value, sharing_gates, Scope, fact_gates, held_at, seen}
use Rattle.rule_core.specs.declared.rule.Formula.TheVariants as formulas
use Rattle.rule_core.specs.Run as run
use Rattle.blast_term.proofs.Nodes.{seen_read}

-- ---- one value

pub masked-holds : (poison share made : Bool) (N n mask : ℕ) → share ≡ not (bit_and n mask == 0) → made ≡ (poison || not share) → made ≡ has_no_bit_of mask (if poison then Poison else bits N n)
masked-holds true share made N n mask of_bits is = is
masked-holds false share made N n mask of_bits is = is ∙ ap not of_bits ∙ elim (bit_and n mask == 0) as (λ b. not (not b) ≡ b) [ true ↦ refl | false ↦ refl ]

pub non_zero-holds : (poison some made : Bool) (N n : ℕ) → some ≡ nat_lt 0 n → made ≡ (poison || some) → made ≡ is_not_zero (if poison then Poison else bits N n)
non_zero-holds true some made N n of_bits is = is
non_zero-holds false some made N zero of_bits is = is ∙ of_bits
non_zero-holds false some made N (suc n) of_bits is = rw (ne_eqb (suc n) 0 (omega arith)) (is ∙ of_bits ∙ lt-ltb 0 (suc n) (omega arith))

-- ---- nodes

module _ {L : Type 0} (value : L → Bool) (scope : Scope L) (f : Formula) where
  pub masked-said : (r : Register) (a : ℕ) (held : Held L) (mask : List L) → f ≡ formulas.MaskedValueIsZero r a → held_at scope r ≡ Some held → slice_get scope.terms.now a ≡ Some mask
      → has_no_bit_of (number_of value mask) (held_value value held) ≡ fact_holds (seen value scope) (map (number_of value) scope.terms.now) f
  masked-said r a held mask is at word =
      let number : slice_index (map (number_of value) scope.terms.now) a ≡ number_of value mask = get_or_from_slice_get (map (number_of value) scope.terms.now) a (number_of value mask) 0 (slice_get-map (number_of value) scope.terms.now a ∙ ap (option_map (number_of value)) word) in
      rw (is, seen_read value scope r held at, number) refl

  pub non_zero-said : (r : Register) (held : Held L) → f ≡ formulas.IsKnownNonZero r → held_at scope r ≡ Some held → is_not_zero (held_value value held) ≡ fact_holds (seen value scope) (map (number_of value) scope.terms.now) f
  non_zero-said r held is at = rw (is, seen_read value scope r held at) refl

-- another node says nothing, and takes no gate
pub nothing-said : (held : run.Held) (numbers : List ℕ) (f : Formula) → ((r : Register) (a : ℕ) → f ≡ formulas.MaskedValueIsZero r a → ⊥) → ((r : Register) → f ≡ formulas.IsKnownNonZero r → ⊥) → fact_holds held numbers f ≡ true
nothing-said held numbers (formulas.MaskedValueIsZero r a) masked non_zero = absurd (masked r a refl)
nothing-said held numbers (formulas.IsKnownNonZero r) masked non_zero = absurd (non_zero r refl)
nothing-said held numbers f masked non_zero = refl

pub nothing-gates : (widths : List ℕ) (f : Formula) → ((r : Register) (a : ℕ) → f ≡ formulas.MaskedValueIsZero r a → ⊥) → ((r : Register) → f ≡ formulas.IsKnownNonZero r → ⊥) → 0 ≡ fact_gates widths f
nothing-gates widths (formulas.MaskedValueIsZero r a) masked non_zero = absurd (masked r a refl)
nothing-gates widths (formulas.IsKnownNonZero r) masked non_zero = absurd (non_zero r refl)
nothing-gates widths f masked non_zero = refl

-- ---- what is kept

-- where nothing is said
pub kept-none : (met undefined : Bool) → met ≡ (met && (undefined || true))
kept-none false undefined = refl
kept-none true true = refl
kept-none true false = refl

-- and with one node more
pub kept-more : (met undefined before one : Bool) → ((met && (undefined || before)) && (undefined || one)) ≡ (met && (undefined || (before && one)))
kept-more false undefined before one = refl
kept-more true true before one = refl
kept-more true false before one = refl

all-push : {X : Type 0} (p : X → Bool) (xs : List X) (x : X) → list_all p (xs ++ x ∷ []) ≡ (list_all p xs && p x)
all-push p [] x = elim (p x) as (λ b. (b && true) ≡ b) [ true ↦ refl | false ↦ refl ]
all-push p (y ∷ xs) x = ap (λ b. p y && b) (all-push p xs x) ∙ elim (p y) as (λ b. (b && (list_all p xs && p x)) ≡ ((b && list_all p xs) && p x)) [ true ↦ refl | false ↦ refl ]

pub all-more : {X : Type 0} (p : X → Bool) (xs : List X) (i : ℕ) (x : X) → i < length xs → x ≡ get_or xs i x → list_all p (take (i + 1) xs) ≡ (list_all p (take i xs) && p x)
all-more p xs i x within is = ap (λ ys. list_all p ys) (take_more xs i x within ∙ ap (λ y. take i xs ++ y ∷ []) (sym is)) ∙ all-push p (take i xs) x

-- ---- gates and widths

pub mask-gates : {L : Type 0} (words : List (List L)) (r : Register) (a : ℕ) (mask : List L) (f : Formula) → f ≡ formulas.MaskedValueIsZero r a → slice_get words a ≡ Some mask → sharing_gates (length mask) + 3 ≡ fact_gates (map length words) f
mask-gates words r a mask f is at =
    let width : slice_index (map length words) a ≡ length mask = get_or_from_slice_get (map length words) a (length mask) 0 (slice_get-map length words a ∙ ap (option_map length) at) in
    rw (is, width) refl

pub non_zero-gates : (widths : List ℕ) (r : Register) (f : Formula) (n : ℕ) → f ≡ formulas.IsKnownNonZero r → n ≤ 64 → any_gates n + 3 ≤ fact_gates widths f
non_zero-gates widths r f n is low = rw is (omega (arith, low))
