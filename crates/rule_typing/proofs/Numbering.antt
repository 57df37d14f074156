-- Renumbering the classes in the order in which they first appear.
use Rattle.rule_typing.proofs.Common.{◌≡◌, ◌≢◌, ◌↔◌, inl, inr, ℕ, zero, suc, ◌+◌, ◌<◌, ◌≤◌, List, [], ◌∷◌, ◌++◌, length, map, take, Some, refl, sym, ap, subst, ◌∙◌, arith, slice_get, Contains, cases_eq, nat_tests, take_more, take-map, length-map, map-append, take_all, slice_get-get_or, same_Some, slice_get_within, get_or_from_slice_get, Contains-push, Contains-push_cases, Contains-append_left, Rule, IsRule, classes_of, get-append_left, Swap, mapped, renamed, IsRenumbered, IsInOrder}
use Rattle.rule_typing.proofs.Images.{get-append_cases}
use Rattle.rule_typing.proofs.NumberedLists.{none_there}
use Rattle.rule_typing.proofs.Relabelled.{classes_of-mapped, mapped-id, mapped-mapped, alike_mapped}
use Rattle.rule_typing.proofs.AlikeRules.{IsRule-alike}

swapped_first : (a b : ℕ) → renamed (Swap a b) a ≡ b
swapped_first a b = grind (arith, nat_tests)

swapped_other : (a b c : ℕ) → c ≢ a → c ≢ b → renamed (Swap a b) c ≡ c
swapped_other a b c not_a not_b = grind (arith, nat_tests)

swapped_back : (a b c : ℕ) → renamed (Swap a b) (renamed (Swap a b) c) ≡ c
swapped_back a b c = grind (arith, nat_tests)

pub not_renumbered : (rule : Rule) → IsRenumbered rule rule
not_renumbered rule = record { to = λ c. c; is = sym (mapped-id rule); apart = λ c d same. same }

pub IsRule-renumbered : (old new : Rule) → IsRule old → IsRenumbered old new → IsRule new
IsRule-renumbered old new checked other = subst IsRule (sym other.is) (IsRule-alike old (mapped other.to old) (sym (alike_mapped other.to old)) checked)

pub swap_more : (old new : Rule) (a b : ℕ) → IsRenumbered old new → IsRenumbered old (mapped (renamed (Swap a b)) new)
swap_more old new a b other =
    record {
      to = λ c. renamed (Swap a b) (other.to c);
      is = ap (mapped (renamed (Swap a b))) other.is ∙ mapped-mapped (renamed (Swap a b)) other.to old;
      apart = λ c d same. other.apart c d (sym (swapped_back a b (other.to c)) ∙ ap (renamed (Swap a b)) same ∙ swapped_back a b (other.to d));
    }

-- swapping n with a number that isn't below it leaves the numbers below n as they are
pub swap_keeps : (a n : ℕ) (xs : List ℕ) → ((c : ℕ) → Contains xs c → c < n) → n ≤ a → map (renamed (Swap a n)) xs ≡ xs
swap_keeps a n [] below past = refl
swap_keeps a n (x ∷ xs) below past =
    let less = below x (0, omega arith, refl) in
    let e : renamed (Swap a n) x ≡ x = swapped_other a n x (λ h. omega arith) (λ h. omega arith) in
    rw e (ap (λ l. x ∷ l) (swap_keeps a n xs (λ c (k, within, is). below c (suc k, omega arith, is)) past))

pub last_is : (c j e : ℕ) → slice_get (c ∷ []) j ≡ Some e → (j ≡ 0) × (c ≡ e)
last_is c zero e at = (refl, same_Some c e at)
last_is c (suc zero) e at = cc
last_is c (suc (suc j)) e at = cc

-- a list in order stays so with one more number, where all smaller ones stand in it
pub order_push : (xs : List ℕ) (c : ℕ) → IsInOrder xs → ((d : ℕ) → d < c → Contains xs d) → IsInOrder (xs ++ c ∷ [])
order_push xs c ordered below p e d at less = elim (get-append_cases xs (c ∷ []) p e at) [
  | inl here ↦ let (q, before, there) = ordered p e d here less in (q, before, get-append_left xs (c ∷ []) q d there)
  | inr (j, place, there) ↦
      let (q, within, is) = below d (omega (arith, last_is c j e there)) in
      (q, omega arith, get-append_left xs (c ∷ []) q d (slice_get-get_or xs q d within ∙ ap (λ x. Some x) is))
]

pub known_push : (xs : List ℕ) (c n : ℕ) → ((e : ℕ) → Contains xs e ↔ (e < n)) → c < n → (e : ℕ) → Contains (xs ++ c ∷ []) e ↔ (e < n)
known_push xs c n known less e = (
  λ among. elim (Contains-push_cases xs c e among) [ inl before ↦ (known e).0 before | inr here ↦ omega arith ],
  λ below. Contains-append_left xs (c ∷ []) e ((known e).1 below),
)

pub next_push : (xs : List ℕ) (n : ℕ) → ((e : ℕ) → Contains xs e ↔ (e < n)) → (e : ℕ) → Contains (xs ++ n ∷ []) e ↔ (e < n + 1)
next_push xs n known e = (
  λ among. elim (Contains-push_cases xs n e among) [ inl before ↦ let less = (known e).0 before in omega arith | inr here ↦ omega arith ],
  λ below. elim (cases_eq e n) [
    | inl same ↦ subst (Contains (xs ++ n ∷ [])) (sym same) (Contains-push xs n)
    | inr other ↦ Contains-append_left xs (n ∷ []) e ((known e).1 (omega arith))
  ],
)

-- the loop: the positions before `place` have their final numbers, those below `next`
pub record IsNumbered (old rule : Rule) (place next : ℕ) : Type 0 where
  pub renumbered : IsRenumbered old rule
  pub order : IsInOrder (take place (classes_of rule))
  pub count : (c : ℕ) → Contains (take place (classes_of rule)) c ↔ (c < next)
  pub few : next ≤ place

-- at first no position has
pub none_yet : (rule : Rule) → IsNumbered rule rule 0 0
none_yet rule = record {
  renumbered = not_renumbered rule;
  order = λ p c d at less. absurd (none_there p c at);
  count = λ c. (λ (k, within, is). omega arith, λ less. absurd (omega arith));
  few = omega arith;
}

pub known : (old rule : Rule) (place next class : ℕ) → IsNumbered old rule place next → slice_get (classes_of rule) place ≡ Some class → class < next → IsNumbered old rule (place + 1) next
known old rule place next class so_far at less =
    let more : take (place + 1) (classes_of rule) ≡ take place (classes_of rule) ++ class ∷ [] = take_more (classes_of rule) place class (slice_get_within (classes_of rule) place class at) ∙ ap (λ c. take place (classes_of rule) ++ c ∷ []) (get_or_from_slice_get (classes_of rule) place class class at) in
    record {
      renumbered = so_far.renumbered;
      order = subst IsInOrder (sym more) (order_push (take place (classes_of rule)) class so_far.order (λ d below. (so_far.count d).1 (omega arith)));
      count = subst (λ l. (c : ℕ) → Contains l c ↔ (c < next)) (sym more) (known_push (take place (classes_of rule)) class next so_far.count less);
      few = let few : next ≤ place = so_far.few in omega arith;
    }

-- a class that has no final number yet is given the next one
pub given : (old rule new : Rule) (place next class : ℕ) → IsNumbered old rule place next → slice_get (classes_of rule) place ≡ Some class → next ≤ class → new ≡ mapped (renamed (Swap class next)) rule → IsNumbered old new (place + 1) (next + 1)
given old rule new place next class so_far at past is =
    let f : ℕ → ℕ = renamed (Swap class next) in
    let seen = take place (classes_of rule) in
    let here : take (place + 1) (classes_of rule) ≡ seen ++ class ∷ [] = take_more (classes_of rule) place class (slice_get_within (classes_of rule) place class at) ∙ ap (λ c. seen ++ c ∷ []) (get_or_from_slice_get (classes_of rule) place class class at) in
    let more : take (place + 1) (classes_of new) ≡ seen ++ next ∷ []
    = ap (λ (r : Rule). take (place + 1) (classes_of r)) is ∙ ap (take (place + 1)) (classes_of-mapped f rule) ∙ take-map f (place + 1) (classes_of rule) ∙ ap (map f) here ∙ map-append f seen (class ∷ [])
    ∙ ap (λ l. l ++ f class ∷ []) (swap_keeps class next seen (λ c. (so_far.count c).0) past) ∙ ap (λ c. seen ++ c ∷ []) (swapped_first class next) in
    record {
      renumbered = subst (IsRenumbered old) (sym is) (swap_more old rule class next so_far.renumbered);
      order = subst IsInOrder (sym more) (order_push seen next so_far.order (λ d below. (so_far.count d).1 below));
      count = subst (λ l. (c : ℕ) → Contains l c ↔ (c < next + 1)) (sym more) (next_push seen next so_far.count);
      few = let few : next ≤ place = so_far.few in omega arith;
    }

-- at the end all positions have them
pub same_count : (old rule : Rule) → IsRenumbered old rule → length (classes_of rule) ≡ length (classes_of old)
same_count old rule other = ap (λ (r : Rule). length (classes_of r)) other.is ∙ ap length (classes_of-mapped other.to old) ∙ length-map (classes_of old) other.to

pub all_seen : (old rule : Rule) (place next : ℕ) → IsNumbered old rule place next → length (classes_of old) ≤ place → IsInOrder (classes_of rule) × ((c : ℕ) → Contains (classes_of rule) c ↔ (c < next))
all_seen old rule place next so_far past =
    let all : take place (classes_of rule) ≡ classes_of rule = take_all place (classes_of rule) (omega (arith, same_count old rule so_far.renumbered)) in
    (subst IsInOrder all so_far.order, subst (λ l. (c : ℕ) → Contains l c ↔ (c < next)) all so_far.count)
