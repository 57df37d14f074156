-- How many settings of the inputs a search may still go through: each input that has a value halves them, and below a
-- decision that isn't flipped yet the other half is left too.
use Rattle.depth_first.proofs.Common.{◌≡◌, ℕ, zero, suc, ◌+◌, ◌<◌, ◌≤◌, Bool, true, false, ◌||◌, cond, eqb, List, [], ◌∷◌, ◌++◌, Some, length, take, get_or, refl, sym, ap, ◌∙◌, arith, subst, inl, inr, ◌-◌, slice_get, Contains, list_any, cases_Bool, eq-eqb, eqb-true, or_left, or_right, Entry, Cause, InputDecision, NonInputDecision, Reason, Option, distinct_count, literals, is_decision, EachFresh, IsOpen}
use Rattle.depth_first.proofs.Lists.{slice_get_in_take}
use Rattle.depth_first.proofs.HeldLists.{both_held, open_not_held, literal_at}

abbrev pub halves : ℕ → ℕ
halves zero = 1
halves (suc n) = halves n + halves n

abbrev pub pending : Cause → ℕ → ℕ
pending InputDecision half = half
pending NonInputDecision half = half
pending (Reason number) half = 0

-- how many settings are left under a trail, with this many inputs without a value before its first entry
abbrev pub leaves : (ℕ → Bool) → List Entry → ℕ → ℕ
leaves input [] left = halves left
leaves input (e ∷ es) zero = 1
leaves input (e ∷ es) (suc left) =
    cond (input e.literal.variable) (pending e.cause (halves left) + leaves input es left) (leaves input es (suc left))

-- how many entries are of input variables
abbrev pub input_count : (ℕ → Bool) → List Entry → ℕ
input_count input [] = 0
input_count input (e ∷ es) = cond (input e.literal.variable) (suc (input_count input es)) (input_count input es)

halves_pos : (n : ℕ) → 1 ≤ halves n
halves_pos zero = omega arith
halves_pos (suc n) = omega (arith, halves_pos n)

pub halves_mono : (m n : ℕ) → m ≤ n → halves m ≤ halves n
halves_mono zero n h = halves_pos n
halves_mono (suc m) zero h = absurd (omega arith)
halves_mono (suc m) (suc n) h = omega (arith, halves_mono m n (omega arith))

pending_le : (cause : Cause) (half : ℕ) → pending cause half ≤ half
pending_le InputDecision half = omega arith
pending_le NonInputDecision half = omega arith
pending_le (Reason number) half = omega arith

pending_decision : (cause : Cause) (half : ℕ) → is_decision cause ≡ true → pending cause half ≡ half
pending_decision InputDecision half is = refl
pending_decision NonInputDecision half is = refl
pending_decision (Reason number) half is = cc

pub either : (b : Bool) (x y z : ℕ) → x ≤ z → y ≤ z → cond b x y ≤ z
either true x y z h k = h
either false x y z h k = k

either_above : (b : Bool) (x y z : ℕ) → z ≤ x → z ≤ y → z ≤ cond b x y
either_above true x y z h k = h
either_above false x y z h k = k

both_ways : (b : Bool) (x y v w : ℕ) → x ≤ v → y ≤ w → cond b x y ≤ cond b v w
both_ways true x y v w h k = h
both_ways false x y v w h k = k

pub leaves_le : (input : ℕ → Bool) (entries : List Entry) (left : ℕ) → leaves input entries left ≤ halves left
leaves_le input [] left = omega arith
leaves_le input (e ∷ es) zero = omega arith
leaves_le input (e ∷ es) (suc left) =
    either (input e.literal.variable) (pending e.cause (halves left) + leaves input es left) (leaves input es (suc left)) (halves (suc left))
    (omega (arith, pending_le e.cause (halves left), leaves_le input es left)) (leaves_le input es (suc left))

pub leaves_pos : (input : ℕ → Bool) (entries : List Entry) (left : ℕ) → 1 ≤ leaves input entries left
leaves_pos input [] left = halves_pos left
leaves_pos input (e ∷ es) zero = omega arith
leaves_pos input (e ∷ es) (suc left) =
    either_above (input e.literal.variable) (pending e.cause (halves left) + leaves input es left) (leaves input es (suc left)) 1
    (omega (arith, leaves_pos input es left)) (leaves_pos input es (suc left))

-- a longer trail leaves no more settings
pub leaves_grow : (input : ℕ → Bool) (entries more : List Entry) (left : ℕ) → leaves input (entries ++ more) left ≤ leaves input entries left
leaves_grow input [] more left = leaves_le input more left
leaves_grow input (e ∷ es) more zero = omega arith
leaves_grow input (e ∷ es) more (suc left) =
    both_ways (input e.literal.variable) (pending e.cause (halves left) + leaves input (es ++ more) left) (leaves input (es ++ more) (suc left)) (pending e.cause (halves left) + leaves input es left) (leaves input es (suc left))
    (omega (arith, leaves_grow input es more left)) (leaves_grow input es more (suc left))

module _ (input : ℕ → Bool) (e f : Entry) (number : ℕ) (is_input : input e.literal.variable ≡ true) (decides : is_decision e.cause ≡ true) (same : f.literal.variable ≡ e.literal.variable) (cause : f.cause ≡ Reason number) where
  some_input : (entries : List Entry) (place : ℕ) → slice_get entries place ≡ Some e → 1 ≤ input_count input entries
  some_input [] place at = cc
  some_input (g ∷ gs) zero at =
      let is : input g.literal.variable ≡ true = ap (λ (h : Entry). input h.literal.variable) (head_same g e at) ∙ is_input in
      subst (λ b. 1 ≤ cond b (suc (input_count input gs)) (input_count input gs)) (sym is) (omega arith)
    where
      head_same : (g e : Entry) → Some g ≡ Some e → g ≡ e
      head_same g e at = cc
  some_input (g ∷ gs) (suc place) at =
      either_above (input g.literal.variable) (suc (input_count input gs)) (input_count input gs) 1 (omega (arith, some_input gs place at)) (some_input gs place at)

  flip_step : (b : Bool) (p x y v w c left : ℕ) → cond b (suc c) c ≤ suc left → (c ≤ left → x + 1 ≤ v) → (c ≤ suc left → y + 1 ≤ w) → cond b (p + x) y + 1 ≤ cond b (p + v) w
  flip_step true p x y v w c left h k m = omega (arith, k (omega arith))
  flip_step false p x y v w c left h k m = m h

  -- where a decision on an input is flipped, at least one setting less is left
  pub leaves_flip : (entries : List Entry) (place left : ℕ) → slice_get entries place ≡ Some e → input_count input entries ≤ left → leaves input (take place entries ++ f ∷ []) left + 1 ≤ leaves input entries left
  leaves_flip [] place left at room = cc
  leaves_flip (g ∷ gs) place zero at room = absurd (omega (arith, some_input (g ∷ gs) place at))
  leaves_flip (g ∷ gs) zero (suc left) at room =
      let is : g ≡ e = cc in
      let first : input g.literal.variable ≡ true = ap (λ (h : Entry). input h.literal.variable) is ∙ is_input in
      let new : input f.literal.variable ≡ true = ap input same ∙ is_input in
      let half : pending g.cause (halves left) ≡ halves left = pending_decision g.cause (halves left) (ap (λ (h : Entry). is_decision h.cause) is ∙ decides) in
      let none : pending f.cause (halves left) ≡ 0 = ap (λ c. pending c (halves left)) cause in
      subst (λ b. cond b (pending f.cause (halves left) + halves left) (halves (suc left)) + 1 ≤ leaves input (g ∷ gs) (suc left)) (sym new)
      (subst (λ b. pending f.cause (halves left) + halves left + 1 ≤ cond b (pending g.cause (halves left) + leaves input gs left) (leaves input gs (suc left))) (sym first)
      (omega (arith, half, none, leaves_pos input gs left)))
  leaves_flip (g ∷ gs) (suc place) (suc left) at room =
      flip_step (input g.literal.variable) (pending g.cause (halves left)) (leaves input (take place gs ++ f ∷ []) left) (leaves input (take place gs ++ f ∷ []) (suc left)) (leaves input gs left) (leaves input gs (suc left)) (input_count input gs) left room
      (leaves_flip gs place left at) (leaves_flip gs place (suc left) at)

-- no two entries are of the same variable
pub record Different (entries : List Entry) : Type 0 where
  pub each : (j k : ℕ) (e f : Entry) → j < k → slice_get entries j ≡ Some e → slice_get entries k ≡ Some f → e.literal.variable ≡ f.literal.variable → ⊥

pub Different-from_fresh : (values : List (Option Bool)) (entries : List Entry) → EachFresh values entries → Different entries
Different-from_fresh values entries fresh =
    record {
      each = λ j k e f less at_j at_k same.
          let held = literals (take k entries) in
          both_held held e.literal (literal_at (take k entries) j e (slice_get_in_take k entries j e at_j less))
          (open_not_held held e.literal (subst (IsOpen held) (sym same) (fresh k f at_k).2));
    }

Different-tail : (e : Entry) (es : List Entry) → Different (e ∷ es) → Different es
Different-tail e es d = record { each = λ j k f g less at_j at_k same. d.each (suc j) (suc k) f g (omega arith) at_j at_k same }

none_of : (n : ℕ) (entries : List Entry) → ((k : ℕ) (f : Entry) → slice_get entries k ≡ Some f → f.literal.variable ≡ n → ⊥) → input_count (λ v. eqb v n) entries ≡ 0
none_of n [] none = refl
none_of n (e ∷ es) none =
    elim (cases_Bool (eqb e.literal.variable n)) [
      | inl is ↦ absurd (none 0 e refl (eqb-true e.literal.variable n is))
      | inr isnt ↦
          ap (λ b. cond b (suc (input_count (λ v. eqb v n) es)) (input_count (λ v. eqb v n) es)) isnt
          ∙ none_of n es (λ k f at. none (suc k) f at)
    ]

at_most_one : (n : ℕ) (entries : List Entry) → Different entries → input_count (λ v. eqb v n) entries ≤ 1
at_most_one n [] d = omega arith
at_most_one n (e ∷ es) d =
    elim (cases_Bool (eqb e.literal.variable n)) [
      | inl is ↦
          let rest : input_count (λ v. eqb v n) es ≡ 0 =
          none_of n es (λ k f at same. d.each 0 (suc k) e f (omega arith) refl at (eqb-true e.literal.variable n is ∙ sym same)) in
          subst (λ b. cond b (suc (input_count (λ v. eqb v n) es)) (input_count (λ v. eqb v n) es) ≤ 1) (sym is) (omega (arith, rest))
      | inr isnt ↦
          subst (λ b. cond b (suc (input_count (λ v. eqb v n) es)) (input_count (λ v. eqb v n) es) ≤ 1) (sym isnt)
          (at_most_one n es (Different-tail e es d))
    ]

sum_step : (a b : Bool) (x y z : ℕ) → z ≤ x + y → cond (a || b) (suc z) z ≤ cond a (suc x) x + cond b (suc y) y
sum_step true true x y z h = omega arith
sum_step true false x y z h = omega arith
sum_step false true x y z h = omega arith
sum_step false false x y z h = h

either_count : (p q : ℕ → Bool) (entries : List Entry) → input_count (λ v. p v || q v) entries ≤ input_count p entries + input_count q entries
either_count p q [] = omega arith
either_count p q (e ∷ es) =
    sum_step (p e.literal.variable) (q e.literal.variable) (input_count p es) (input_count q es) (input_count (λ v. p v || q v) es) (either_count p q es)

no_count : (entries : List Entry) → input_count (λ v. false) entries ≡ 0
no_count [] = refl
no_count (e ∷ es) = no_count es

-- whether the variable is in the list
abbrev pub is_among : List ℕ → ℕ → Bool
is_among inputs v = list_any (eqb v) inputs

-- a number that the list has already adds no member
pub among_already : (n : ℕ) (ns : List ℕ) (v : ℕ) → is_among ns n ≡ true → is_among (n ∷ ns) v ≡ is_among ns v
among_already n ns v among =
    elim (cases_Bool (eqb v n)) [
      | inl is ↦ ap (λ b. b || is_among ns v) is ∙ sym (ap (is_among ns) (eqb-true v n is) ∙ among)
      | inr isnt ↦ ap (λ b. b || is_among ns v) isnt
    ]

same_count : (p q : ℕ → Bool) (entries : List Entry) → ((v : ℕ) → p v ≡ q v) → input_count p entries ≡ input_count q entries
same_count p q [] same = refl
same_count p q (e ∷ es) same =
    ap (λ b. cond b (suc (input_count p es)) (input_count p es)) (same e.literal.variable)
    ∙ ap (λ n. cond (q e.literal.variable) (suc n) n) (same_count p q es same)

-- a trail has at most as many entries of inputs as there are different inputs
pub input_count_le : (inputs : List ℕ) (entries : List Entry) → Different entries → input_count (is_among inputs) entries ≤ distinct_count inputs
input_count_le [] entries d = omega (arith, no_count entries)
input_count_le (n ∷ ns) entries d =
    let rest = input_count_le ns entries d in
    elim (cases_Bool (is_among ns n)) [
      | inl among ↦
          omega (arith, rest, same_count (is_among (n ∷ ns)) (is_among ns) entries (λ v. among_already n ns v among), ap (λ b. cond b 0 1 + distinct_count ns) among)
      | inr other ↦
          omega (arith, rest, either_count (λ v. eqb v n) (is_among ns) entries, at_most_one n entries d, ap (λ b. cond b 0 1 + distinct_count ns) other)
    ]

among_at : (inputs : List ℕ) (k v : ℕ) → k < length inputs → get_or inputs k v ≡ v → is_among inputs v ≡ true
among_at [] k v within is = absurd (omega arith)
among_at (n ∷ ns) zero v within is = or_left (eqb v n) (is_among ns v) (eq-eqb v n (sym is))
among_at (n ∷ ns) (suc k) v within is = or_right (eqb v n) (is_among ns v) (among_at ns k v (omega arith) is)

pub is_among-from_contains : (inputs : List ℕ) (v : ℕ) → Contains inputs v → is_among inputs v ≡ true
is_among-from_contains inputs v (k, within, is) = among_at inputs k v within is
