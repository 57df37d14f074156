-- The numbers that are taken for the choices of a rule, in the order of the text: those of a statement are among its
-- inputs.
use Rattle.rewriter.proofs.Common.{◌≡◌, ℕ, zero, suc, ◌+◌, ◌<◌, inl, inr, List, [], ◌∷◌, ◌++◌, length, length-append, map, append-nil, Some, refl, sym, ap, ◌∙◌, arith, slice_get, slice_index, Contains, flat_map, range_with_len, map-append, get_or-range_with_len, pow_pos, same_Some, slice_get_within, get_or_from_slice_get, Number, IsValueOf, Value, Choice, operands_of, undef_in, frozen_in, choices_of, choices_among, Argument, Copy, Statement, get_left, get_right, get_cases, Contains-from_get, Contains-flat_map}
use Rattle.ops.specs.declared.value.Value.TheVariants as values
use Rattle.rule_core.specs.declared.rule.Argument.TheVariants as arguments
use Rattle.rule_core.specs.declared.rule.Op.{Op}
use Rattle.rule_core.specs.declared.rule.Op.TheVariants.{Binary, Compare, Unary, Select, Convert, Freeze}
use Rattle.rule_core.specs.declared.rule.Operand.{Operand}
use Rattle.rewriter.proofs.Computing.{number_of, inputs_of}

-- the choices among operands, and their indices
abbrev pub open_in : List Operand → List Choice
open_in operands = flat_map (λ o. undef_in o.class o.value) operands

abbrev pub places : List Choice → List ℕ
places choices = map (λ c. c.place) choices

abbrev pub undefs_of : List Operand → List ℕ
undefs_of operands = places (open_in operands)

-- the number that is taken for an argument, if it is an `undef`
abbrev pub pick : Argument → Value → List Number
pick (arguments.Undef k) v = number_of v ∷ []
pick (arguments.Register r) v = []
pick (arguments.Literal z) v = []
pick (arguments.Truth b) v = []
pick (arguments.Constant k) v = []
pick (arguments.Term n) v = []

abbrev pub picked : List Operand → (ℕ → Value) → List Number
picked [] v = []
picked (o ∷ operands) v = pick o.value (v 0) ++ picked operands (λ n. v (suc n))

-- one operand more
abbrev undefs_in : Argument → List ℕ
undefs_in (arguments.Undef k) = k ∷ []
undefs_in (arguments.Register r) = []
undefs_in (arguments.Literal z) = []
undefs_in (arguments.Truth b) = []
undefs_in (arguments.Constant k) = []
undefs_in (arguments.Term n) = []

one_more : (o : Operand) (operands : List Operand) (a : Argument) → o.value ≡ a → undefs_of (o ∷ operands) ≡ undefs_in a ++ undefs_of operands
one_more o operands (arguments.Undef k) is = rw is refl
one_more o operands (arguments.Register r) is = rw is refl
one_more o operands (arguments.Literal z) is = rw is refl
one_more o operands (arguments.Truth b) is = rw is refl
one_more o operands (arguments.Constant k) is = rw is refl
one_more o operands (arguments.Term n) is = rw is refl

pick_length : (a : Argument) (v : Value) → length (pick a v) ≡ length (undefs_in a)
pick_length (arguments.Undef k) v = refl
pick_length (arguments.Register r) v = refl
pick_length (arguments.Literal z) v = refl
pick_length (arguments.Truth b) v = refl
pick_length (arguments.Constant k) v = refl
pick_length (arguments.Term n) v = refl

pub picked_length : (operands : List Operand) (v : ℕ → Value) → length (picked operands v) ≡ length (undefs_of operands)
picked_length [] v = refl
picked_length (o ∷ operands) v =
    let rest : length (picked operands (λ n. v (suc n))) ≡ length (undefs_of operands) = picked_length operands (λ n. v (suc n)) in
    let more : undefs_of (o ∷ operands) ≡ undefs_in o.value ++ undefs_of operands = one_more o operands o.value refl in
    rw more (omega (arith, length-append (pick o.value (v 0)) (picked operands (λ n. v (suc n))), length-append (undefs_in o.value) (undefs_of operands), pick_length o.value (v 0)))

-- an `undef` among operands takes the number at the index of its choice
pub picked_at : (operands : List Operand) (v : ℕ → Value) (i : ℕ) (o : Operand) (k : ℕ) → slice_get operands i ≡ Some o → o.value ≡ arguments.Undef k
    → (q : ℕ) × (slice_get (undefs_of operands) q ≡ Some k) × (slice_get (picked operands v) q ≡ Some (number_of (v i)))
picked_at [] v i o k at is = absurd cc
picked_at (p ∷ operands) v zero o k at is =
    let same : p.value ≡ arguments.Undef k = ap (λ (x : Operand). x.value) (same_Some p o at) ∙ is in
    let more : undefs_of (p ∷ operands) ≡ k ∷ undefs_of operands = one_more p operands (arguments.Undef k) same in
    (0, ap (λ (l : List ℕ). slice_get l 0) more, ap (λ (a : Argument). slice_get (pick a (v 0) ++ picked operands (λ n. v (suc n))) 0) same)
picked_at (p ∷ operands) v (suc i) o k at is =
    let rest = picked_at operands (λ n. v (suc n)) i o k at is in
    let more : undefs_of (p ∷ operands) ≡ undefs_in p.value ++ undefs_of operands = one_more p operands p.value refl in (
      length (undefs_in p.value) + rest.0,
      ap (λ (l : List ℕ). slice_get l (length (undefs_in p.value) + rest.0)) more ∙ get_right (undefs_in p.value) (undefs_of operands) rest.0 (length (undefs_in p.value) + rest.0) k rest.1 refl,
      get_right (pick p.value (v 0)) (picked operands (λ n. v (suc n))) rest.0 (length (undefs_in p.value) + rest.0) (number_of (v (suc i))) rest.2 (ap (λ n. n + rest.0) (sym (pick_length p.value (v 0)))),
    )

-- and each number is taken by one
abbrev pub PickedFrom : List Operand → (ℕ → Value) → ℕ → Number → Type 0
PickedFrom operands v q n = (i : ℕ) × (o : Operand) × (k : ℕ) × (slice_get operands i ≡ Some o) × (o.value ≡ arguments.Undef k) × (slice_get (undefs_of operands) q ≡ Some k) × (number_of (v i) ≡ n)

first_from : (o : Operand) (operands : List Operand) (v : ℕ → Value) (a : Argument) (q : ℕ) (n : Number) → o.value ≡ a → slice_get (pick a (v 0)) q ≡ Some n → PickedFrom (o ∷ operands) v q n
first_from o operands v (arguments.Undef k) zero n is at =
    let more : undefs_of (o ∷ operands) ≡ k ∷ undefs_of operands = one_more o operands (arguments.Undef k) is in
    (0, o, k, refl, is, ap (λ (l : List ℕ). slice_get l 0) more, same_Some (number_of (v 0)) n at)
first_from o operands v (arguments.Undef k) (suc q) n is at = absurd cc
first_from o operands v (arguments.Register r) q n is at = absurd cc
first_from o operands v (arguments.Literal z) q n is at = absurd cc
first_from o operands v (arguments.Truth b) q n is at = absurd cc
first_from o operands v (arguments.Constant k) q n is at = absurd cc
first_from o operands v (arguments.Term m) q n is at = absurd cc

pub picked_from : (operands : List Operand) (v : ℕ → Value) (q : ℕ) (n : Number) → slice_get (picked operands v) q ≡ Some n → PickedFrom operands v q n
picked_from [] v q n at = absurd cc
picked_from (o ∷ operands) v q n at =
    elim (get_cases (pick o.value (v 0)) (picked operands (λ n. v (suc n))) q n at) [
      | inl here ↦ first_from o operands v o.value q n refl here
      | inr later ↦
          let rest = picked_from operands (λ n. v (suc n)) later.0 n later.2 in
          let more : undefs_of (o ∷ operands) ≡ undefs_in o.value ++ undefs_of operands = one_more o operands o.value refl in
          let place : q ≡ length (undefs_in o.value) + later.0 = later.1 ∙ ap (λ m. m + later.0) (pick_length o.value (v 0)) in
          (suc rest.0, rest.1, rest.2, rest.3, rest.4, ap (λ (l : List ℕ). slice_get l q) more ∙ get_right (undefs_in o.value) (undefs_of operands) later.0 q rest.2 rest.5 place, rest.6)
    ]

-- ---- the order of the indices

-- the indices are those from m on
abbrev pub InOrder : ℕ → List ℕ → Type 0
InOrder m xs = (q : ℕ) (k : ℕ) → slice_get xs q ≡ Some k → k ≡ m + q

pub in_order : (xs : List ℕ) → xs ≡ range_with_len 0 (length xs) → InOrder 0 xs
in_order xs order q k at =
    let small : q < length xs = slice_get_within xs q k at in
    let there : slice_get (range_with_len 0 (length xs)) q ≡ Some k = ap (λ (l : List ℕ). slice_get l q) (sym order) ∙ at in
    sym (get_or_from_slice_get (range_with_len 0 (length xs)) q k 0 there) ∙ get_or-range_with_len 0 (length xs) q 0 small

pub in_order_left : (m : ℕ) (xs ys : List ℕ) → InOrder m (xs ++ ys) → InOrder m xs
in_order_left m xs ys order q k at = order q k (get_left xs ys q k at)

pub in_order_right : (m : ℕ) (xs ys : List ℕ) → InOrder m (xs ++ ys) → InOrder (m + length xs) ys
in_order_right m xs ys order q k at =
    let e : k ≡ m + (length xs + q) = order (length xs + q) k (get_right xs ys q (length xs + q) k at refl) in omega arith

-- the choices of a statement are those among its inputs
taken_open : (c : ℕ) (op : Op) → open_in (operands_of op) ++ frozen_in c op ≡ open_in (inputs_of c op)
taken_open c (Freeze a k) = rw (append-nil (undef_in a.class a.value)) refl
taken_open c (Binary op flags a b) = append-nil (open_in (a ∷ b ∷ []))
taken_open c (Compare pred samesign a b) = append-nil (open_in (a ∷ b ∷ []))
taken_open c (Unary op truth a) = append-nil (open_in (a ∷ []))
taken_open c (Select z a b) = append-nil (open_in (z ∷ a ∷ b ∷ []))
taken_open c (Convert cast flags a to) = append-nil (open_in (a ∷ []))
taken_open c (Copy a) = append-nil (open_in (a ∷ []))

pub statement_open_in : (s : Statement) → choices_of s ≡ open_in (inputs_of s.class s.op)
statement_open_in s = taken_open s.class s.op

-- and their indices come before those of the statements behind it
pub undefs_apart : (s : Statement) (statements : List Statement) → places (choices_among (s ∷ statements)) ≡ undefs_of (inputs_of s.class s.op) ++ places (choices_among statements)
undefs_apart s statements =
    map-append (λ (c : Choice). c.place) (choices_of s) (choices_among statements)
    ∙ ap (λ (cs : List Choice). places cs ++ places (choices_among statements)) (statement_open_in s)

-- the choice of an `undef` among the inputs is one of the statement's
pub input_open : (s : Statement) (i : ℕ) (o : Operand) (k : ℕ) → slice_get (inputs_of s.class s.op) i ≡ Some o → o.value ≡ arguments.Undef k → Contains (choices_of s) (record { place = k; class = o.class })
input_open s i o k at is =
    let choice : Choice = record { place = k; class = o.class } in
    let own : Contains (undef_in o.class o.value) choice = rw is (Contains-from_get (choice ∷ []) 0 choice refl) in
    rw (statement_open_in s)
    (Contains-flat_map (λ (p : Operand). undef_in p.class p.value) (inputs_of s.class s.op) o choice (Contains-from_get (inputs_of s.class s.op) i o at) own)

-- ---- zeros

-- zeros of the widths of the choices
abbrev pub zero_for : List ℕ → Choice → Number
zero_for typing c = record { width = slice_index typing c.class; number = 0 }

abbrev pub zeros : List ℕ → List Choice → List Number
zeros typing choices = map (zero_for typing) choices

pub zero_from : (typing : List ℕ) (choices : List Choice) (q : ℕ) (n : Number) → slice_get (zeros typing choices) q ≡ Some n → (c : Choice) × (slice_get choices q ≡ Some c) × (n ≡ zero_for typing c)
zero_from typing [] q n at = absurd cc
zero_from typing (c ∷ choices) zero n at = (c, refl, sym (same_Some (zero_for typing c) n at))
zero_from typing (c ∷ choices) (suc q) n at = zero_from typing choices q n at

pub zero_fits : (typing : List ℕ) (c : Choice) (N : ℕ) → slice_get typing c.class ≡ Some N → IsValueOf N (values.Bits (zero_for typing c))
zero_fits typing c N at = let is : slice_index typing c.class ≡ N = get_or_from_slice_get typing c.class N 0 at in (is, pow_pos N)
