-- In a formula as it is spelled `hasOneUse`, and what is said of bits, stand as members of the outermost `&&` alone.
use Rattle.rule_reader.proofs.Common.{◌≡◌, ◌⊎◌, inl, inr, ℕ, zero, suc, ◌+◌, ◌-◌, ◌^◌, ◌<◌, ◌≤◌, List, [], ◌∷◌, ◌++◌, length, map, Option, None, Some, refl, sym, ap, subst, ◌∙◌, arith, length-append, slice_get, option_map_or, sum_by-cons, same_Some, Token, RawFormula, last_place, SpellsFormula, Standing, Outermost, Within, Level, Member, compares, tests, masked, non_zero, turns, encloses, member, both, members, either, predicates, Joint, Outer, Single, IsPartOf, HasOuter, part, OuterMayStand, OuterIsOutermost, RawPrecondition, SpellsPrecondition, formula_weight, Maybe, raw_joint, rule_limits}
use Rattle.std.proofs.Common.{sum_by}
use Rattle.rule_terms.specs.declared.raw.RawFormula.TheVariants as raw_formulas
use Rattle.rule_terms.specs.Formulas.{one_use}
use Rattle.rule_core.specs.FormulaNodes.{itself}
use Rattle.rule_reader.proofs.Places.{at_append, at_map, map_at, there}

left_at : {X : Type 0} (xs ys : List X) (i : ℕ) (x : X) → slice_get xs i ≡ Some x → slice_get (xs ++ ys) i ≡ Some x
left_at [] ys i x at = elim i as (λ j. slice_get [] j ≡ Some x → slice_get ys j ≡ Some x) [ zero ↦ λ h. absurd (cc) | suc j ↦ λ h. absurd (cc) ] at
left_at (y ∷ xs) ys zero x at = at
left_at (y ∷ xs) ys (suc i) x at = left_at xs ys i x at

right_at : {X : Type 0} (xs ys : List X) (i : ℕ) (x : X) → slice_get ys i ≡ Some x → slice_get (xs ++ ys) (length xs + i) ≡ Some x
right_at [] ys i x at = subst (λ j. slice_get ys j ≡ Some x) (let same : i ≡ 0 + i = omega arith in same) at
right_at (y ∷ xs) ys i x at = subst (λ j. slice_get (y ∷ xs ++ ys) j ≡ Some x) (let same : suc (length xs + i) ≡ length (y ∷ xs) + i = omega arith in same) (right_at xs ys i x at)

-- no node may stand as a member of the outermost `&&` alone
abbrev AsksNone : List RawFormula → Type 0
AsksNone nodes = (i : ℕ) (f : RawFormula) → slice_get nodes i ≡ Some f → raw_joint f ≡ Outer → ⊥

none_both : (xs ys : List RawFormula) → AsksNone xs → AsksNone ys → AsksNone (xs ++ ys)
none_both xs ys p q i f at = elim (at_append xs ys i f at) [ inl here ↦ p i f here | inr (j, e, there') ↦ q j f there' ]

none_one : (f : RawFormula) → (raw_joint f ≡ Outer → ⊥) → AsksNone (f ∷ [])
none_one f p zero g at = subst (λ h. raw_joint h ≡ Outer → ⊥) (same_Some f g at) p
none_one f p (suc i) g at = absurd cc

-- the operands of these nodes, which begin at `start`, are among them, each before its node
abbrev OwnParts : ℕ → List RawFormula → Type 0
OwnParts start nodes = (i a : ℕ) (f : RawFormula) → slice_get nodes i ≡ Some f → IsPartOf a (raw_joint f) → (start ≤ a) × (a < start + i)

own_both : (start : ℕ) (xs ys : List RawFormula) → OwnParts start xs → OwnParts (start + length xs) ys → OwnParts start (xs ++ ys)
own_both start xs ys p q i a f at is = elim (at_append xs ys i f at) [
  | inl here ↦ p i a f here is
  | inr (j, e, there') ↦ let place : i ≡ length xs + j = e in let bounds = q j a f there' is in (omega (arith, bounds.0), omega (arith, bounds.1, place))
]

own_one : (start from : ℕ) (f : RawFormula) → from ≤ start → ((a : ℕ) → IsPartOf a (raw_joint f) → (from ≤ a) × (a < start)) → (i a : ℕ) (g : RawFormula) → slice_get (f ∷ []) i ≡ Some g → IsPartOf a (raw_joint g) → (from ≤ a) × (a < start + i)
own_one start from f le p zero a g at is = let bounds = p a (subst (λ h. IsPartOf a (raw_joint h)) (sym (same_Some f g at)) is) in (bounds.0, omega (arith, bounds.1))
own_one start from f le p (suc i) a g at is = absurd cc

-- a node appended behind its operands
own_behind : (start : ℕ) (xs : List RawFormula) (f : RawFormula) → OwnParts start xs → ((a : ℕ) → IsPartOf a (raw_joint f) → (start ≤ a) × (a < start + length xs)) → OwnParts start (xs ++ f ∷ [])
own_behind start xs f p q i a g at is = elim (at_append xs (f ∷ []) i g at) [
  | inl here ↦ p i a g here is
  | inr (j, e, there') ↦
      let place : i ≡ length xs + j = e in
      let bounds = own_one (start + length xs) start f (omega arith) q j a g there' is in
      (bounds.0, omega (arith, bounds.1, place))
]

module _ (joints : List Joint) where
  -- these nodes are those of the formula from `start` on
  abbrev StandFrom : ℕ → List RawFormula → Type 0
  StandFrom start nodes = (i : ℕ) (f : RawFormula) → slice_get nodes i ≡ Some f → slice_get joints (start + i) ≡ Some (raw_joint f)

  stand_left : (start : ℕ) (xs ys : List RawFormula) → StandFrom start (xs ++ ys) → StandFrom start xs
  stand_left start xs ys all i f at = all i f (left_at xs ys i f at)

  stand_right : (start : ℕ) (xs ys : List RawFormula) → StandFrom start (xs ++ ys) → StandFrom (start + length xs) ys
  stand_right start xs ys all i f at = subst (λ j. slice_get joints j ≡ Some (raw_joint f)) (let same : start + (length xs + i) ≡ start + length xs + i = omega arith in same) (all (length xs + i) f (right_at xs ys i f at))

  -- none of the nodes is one of these, nor what they are the whole of
  quiet : (start : ℕ) (nodes : List RawFormula) → StandFrom start nodes → OwnParts start nodes → AsksNone nodes → (m i : ℕ) → m ≡ start + i → i < length nodes → HasOuter joints m → ⊥
  quiet start nodes stand own none m i e within (itself at) =
      let (f, at') = there nodes i within in
      let same : raw_joint f ≡ Outer = same_Some (raw_joint f) Outer (sym (stand i f at') ∙ ap (slice_get joints) (sym e) ∙ at) in
      none i f at' same
  quiet start nodes stand own none m i e within (part a node at is more) =
      let (f, at') = there nodes i within in
      let same : raw_joint f ≡ node = same_Some (raw_joint f) node (sym (stand i f at') ∙ ap (slice_get joints) (sym e) ∙ at) in
      let bounds = own i a f at' (subst (IsPartOf a) (sym same) is) in
      let j : ℕ = a - start in
      let place : a ≡ start + j = omega (arith, bounds.0) in
      let inside : j < length nodes = omega (arith, place, bounds.1, within) in
      quiet start nodes stand own none a j place inside more

  abbrev MayAll : List RawFormula → Type 0
  MayAll nodes = (i : ℕ) (f : RawFormula) → slice_get nodes i ≡ Some f → OuterMayStand joints (raw_joint f)

  may_both : (xs ys : List RawFormula) → MayAll xs → MayAll ys → MayAll (xs ++ ys)
  may_both xs ys p q i f at = elim (at_append xs ys i f at) [ inl here ↦ p i f here | inr (j, e, there') ↦ q j f there' ]

  may_one : (f : RawFormula) → OuterMayStand joints (raw_joint f) → MayAll (f ∷ [])
  may_one f p zero g at = subst (λ h. OuterMayStand joints (raw_joint h)) (same_Some f g at) p
  may_one f p (suc i) g at = absurd cc

  -- what stands within has none
  abbrev Quiet : Standing → List RawFormula → Type 0
  Quiet Within nodes = AsksNone nodes
  Quiet Outermost nodes = Unit {0}

  quiet_of : (standing : Standing) (nodes : List RawFormula) → AsksNone nodes → Quiet standing nodes
  quiet_of Within nodes none = none
  quiet_of Outermost nodes none = tt

  quiet_joined : (standing : Standing) (xs ys : List RawFormula) (f : RawFormula) → Quiet standing xs → Quiet standing ys → (raw_joint f ≡ Outer → ⊥) → Quiet standing (xs ++ ys ++ f ∷ [])
  quiet_joined Within xs ys f p q r = none_both (xs ++ ys) (f ∷ []) (none_both xs ys p q) (none_one f r)
  quiet_joined Outermost xs ys f p q r = tt

  -- a member is one of these, or has none
  abbrev IsMember : Level → List RawFormula → Type 0
  IsMember Member nodes = ((f : RawFormula) × (nodes ≡ f ∷ []) × (raw_joint f ≡ Outer)) ⊎ AsksNone nodes
  IsMember level nodes = Unit {0}

  record Made (standing : Standing) (level : Level) (start : ℕ) (nodes : List RawFormula) : Type 0 where
    some : 1 ≤ length nodes
    own : OwnParts start nodes
    may : MayAll nodes
    quiet_within : Quiet standing nodes
    is_member : IsMember level nodes

  lone : (standing : Standing) (start : ℕ) (f : RawFormula) → raw_joint f ≡ Single → Made standing Member start (f ∷ [])
  lone standing start f is =
      let none : raw_joint f ≡ Outer → ⊥ = λ asks. let both = sym is ∙ asks in absurd cc in
      record {
        some = omega arith;
        own = own_one start start f (omega arith) (λ a which. absurd (subst (IsPartOf a) is which));
        may = may_one f (subst (OuterMayStand joints) (sym is) tt);
        quiet_within = quiet_of standing (f ∷ []) (none_one f none);
        is_member = inr (none_one f none);
      }

  outer : (start : ℕ) (f : RawFormula) → raw_joint f ≡ Outer → Made Outermost Member start (f ∷ [])
  outer start f is = record {
    some = omega arith;
    own = own_one start start f (omega arith) (λ a which. absurd (subst (IsPartOf a) is which));
    may = may_one f (subst (OuterMayStand joints) (sym is) tt);
    quiet_within = tt;
    is_member = inl (f, refl, is);
  }

  last_at : (start : ℕ) (nodes : List RawFormula) → 1 ≤ length nodes → start + length nodes ≤ 2 ^ 32 → last_place (start + length nodes) ≡ start + (length nodes - 1)
  last_at start nodes some few = omega (arith, some, few)

  -- where so many nodes stand the one on the right of a `&&` is one of these itself, or has none
  right_alone : (start : ℕ) (nodes : List RawFormula) → 1 ≤ length nodes → StandFrom start nodes → OwnParts start nodes → IsMember Member nodes → (b : ℕ) → b ≡ start + (length nodes - 1) → HasOuter joints b → slice_get joints b ≡ Some Outer
  right_alone start nodes some stand own (inl (f, whole, asks)) b e which =
      let one : length nodes ≡ 1 = ap length whole in
      let first : slice_get nodes 0 ≡ Some f = ap (λ (ns : List RawFormula). slice_get ns 0) whole in
      let place : start + 0 ≡ b = omega (arith, e, one) in
      subst (λ k. slice_get joints k ≡ Some Outer) place (stand 0 f first ∙ ap (λ (x : Joint). Some x) asks)
  right_alone start nodes some stand own (inr none) b e which = let within : length nodes - 1 < length nodes = omega (arith, some) in absurd (quiet start nodes stand own none b (length nodes - 1) e within which)

  -- two operands and their operator's node behind them
  record Halves (start : ℕ) (left right : List RawFormula) (node : RawFormula) : Type 0 where
    long : length (left ++ right ++ node ∷ []) ≡ length left + length right + 1
    left_few : start + length left ≤ 2 ^ 32
    right_few : start + length left + length right ≤ 2 ^ 32
    left_stand : StandFrom start left
    right_stand : StandFrom (start + length left) right

  halves : (start : ℕ) (left right : List RawFormula) (node : RawFormula) → start + length (left ++ right ++ node ∷ []) ≤ 2 ^ 32 → StandFrom start (left ++ right ++ node ∷ []) → Halves start left right node
  halves start left right node few stand =
      let two : length (left ++ right ++ node ∷ []) ≡ length (left ++ right) + 1 = length-append (left ++ right) (node ∷ []) in
      let one : length (left ++ right) ≡ length left + length right = length-append left right in
      let operands : StandFrom start (left ++ right) = stand_left start (left ++ right) (node ∷ []) stand in
      record {
        long = omega (arith, one, two);
        left_few = omega (arith, few, one, two);
        right_few = omega (arith, few, one, two);
        left_stand = stand_left start left right operands;
        right_stand = stand_right start left right operands;
      }

  joined_at : (start : ℕ) (left right : List RawFormula) → 1 ≤ length left → 1 ≤ length right → start + length left + length right ≤ 2 ^ 32
      → (last_place (start + length left) ≡ start + (length left - 1)) × (last_place (start + length left + length right) ≡ start + length left + (length right - 1))
  joined_at start left right some other few = (omega (arith, some, other, few), omega (arith, some, other, few))

  made : {standing : Standing} {level : Level} {nesting start : ℕ} {nodes : List RawFormula} {tokens : List Token} → SpellsFormula rule_limits standing level nesting start nodes tokens → start + length nodes ≤ 2 ^ 32 → StandFrom start nodes → Made standing level start nodes
  made {standing} (compares {start = start} {left = left} {right = right} pred a b) few stand = lone standing start (raw_formulas.Compare pred left right) refl
  made {standing} (tests {start = start} {term = term} predicate s) few stand = elim (predicates predicate term) [
    | inl power ↦ subst (λ f. Made standing Member start (f ∷ [])) (sym power.1) (lone standing start (raw_formulas.IsPowerOfTwo term) refl)
    | inr sign ↦ subst (λ f. Made standing Member start (f ∷ [])) (sym sign.1) (lone standing start (raw_formulas.IsSignBit term) refl)
  ]
  made (one_use {start = start} {name = name} le) few stand = outer start (raw_formulas.HasOneUse name) refl
  made (masked {start = start} {name = name} {term = term} le s) few stand = outer start (raw_formulas.MaskedValueIsZero name term) refl
  made (non_zero {start = start} {name = name} le) few stand = outer start (raw_formulas.IsKnownNonZero name) refl
  made {standing} (turns {start = start} {nodes = nodes} s) few stand =
      let node : RawFormula = raw_formulas.Not (last_place (start + length nodes)) in
      let long : length (nodes ++ node ∷ []) ≡ length nodes + 1 = length-append nodes (node ∷ []) in
      let inside_few : start + length nodes ≤ 2 ^ 32 = omega (arith, few, long) in
      let inside_stand : StandFrom start nodes = stand_left start nodes (node ∷ []) stand in
      let x = made s inside_few inside_stand in
      let some = x.some in
      let place : last_place (start + length nodes) ≡ start + (length nodes - 1) = last_at start nodes some inside_few in
      let last : length nodes - 1 < length nodes = omega (arith, some) in
      let none : AsksNone (nodes ++ node ∷ []) = none_both nodes (node ∷ []) x.quiet_within (none_one node (λ e. absurd cc)) in
      record {
        some = omega (arith, long);
        own = own_behind start nodes node x.own (λ a which. (omega (arith, which, place), omega (arith, which, place, some)));
        may = may_both nodes (node ∷ []) x.may (may_one node (quiet start nodes inside_stand x.own x.quiet_within (last_place (start + length nodes)) (length nodes - 1) place last));
        quiet_within = quiet_of standing (nodes ++ node ∷ []) none;
        is_member = inr none;
      }
  made {standing} (encloses {nodes = nodes} s) few stand =
      let x = made s few stand in
      record { some = x.some; own = x.own; may = x.may; quiet_within = quiet_of standing nodes x.quiet_within; is_member = inr x.quiet_within }
  made (member s) few stand = let x = made s few stand in record { some = x.some; own = x.own; may = x.may; quiet_within = x.quiet_within; is_member = tt }
  made (members s) few stand = let x = made s few stand in record { some = x.some; own = x.own; may = x.may; quiet_within = x.quiet_within; is_member = tt }
  made {standing} (both {start = start} {left = left} {right = right} a b) few stand =
      let x : ℕ = last_place (start + length left) in
      let y : ℕ = last_place (start + length left + length right) in
      let node : RawFormula = raw_formulas.And x y in
      let j = halves start left right node few stand in
      let l = made a j.left_few j.left_stand in
      let r = made b j.right_few j.right_stand in
      let places = joined_at start left right l.some r.some j.right_few in
      record {
        some = omega (arith, j.long);
        own = own_behind start (left ++ right) node (own_both start left right l.own r.own)
            (λ c which. elim which [
              | inl e ↦ (omega (arith, e, places.0), omega (arith, e, places.0, l.some, length-append left right))
              | inr e ↦ (omega (arith, e, places.1), omega (arith, e, places.1, r.some, length-append left right))
            ]);
        may = may_both (left ++ right) (node ∷ []) (may_both left right l.may r.may)
            (may_one node (right_alone (start + length left) right r.some j.right_stand r.own r.is_member y places.1));
        quiet_within = quiet_joined standing left right node l.quiet_within r.quiet_within (λ e. absurd cc);
        is_member = tt;
      }
  made {standing} (either {start = start} {left = left} {right = right} a b) few stand =
      let x : ℕ = last_place (start + length left) in
      let y : ℕ = last_place (start + length left + length right) in
      let node : RawFormula = raw_formulas.Or x y in
      let j = halves start left right node few stand in
      let l = made a j.left_few j.left_stand in
      let r = made b j.right_few j.right_stand in
      let places = joined_at start left right l.some r.some j.right_few in
      let left_last : length left - 1 < length left = omega (arith, l.some) in
      let right_last : length right - 1 < length right = omega (arith, r.some) in
      let none : AsksNone (left ++ right ++ node ∷ []) = none_both (left ++ right) (node ∷ []) (none_both left right l.quiet_within r.quiet_within) (none_one node (λ e. absurd cc)) in
      record {
        some = omega (arith, j.long);
        own = own_behind start (left ++ right) node (own_both start left right l.own r.own)
            (λ c which. elim which [
              | inl e ↦ (omega (arith, e, places.0), omega (arith, e, places.0, l.some, length-append left right))
              | inr e ↦ (omega (arith, e, places.1), omega (arith, e, places.1, r.some, length-append left right))
            ]);
        may = may_both (left ++ right) (node ∷ []) (may_both left right l.may r.may)
            (may_one node (
              quiet start left j.left_stand l.own l.quiet_within x (length left - 1) places.0 left_last,
              quiet (start + length left) right j.right_stand r.own r.quiet_within y (length right - 1) places.1 right_last,
            ));
        quiet_within = quiet_of standing (left ++ right ++ node ∷ []) none;
        is_member = tt;
      }

-- the formula of `Pre:`, if there is one
pub precondition_outer : (p : Option RawPrecondition) (tokens : List Token) → Maybe (SpellsPrecondition rule_limits) p tokens → length (option_map_or (λ q. q.formula) p []) ≤ 2 ^ 32 → OuterIsOutermost (map raw_joint (option_map_or (λ q. q.formula) p []))
precondition_outer None tokens spelled few n node at = elim n as (λ j. slice_get [] j ≡ Some node → OuterMayStand [] node) [ zero ↦ λ h. absurd (cc) | suc j ↦ λ h. absurd (cc) ] at
precondition_outer (Some p) tokens spelled few n node at =
    let joints : List Joint = map raw_joint p.formula in
    let stand : (i : ℕ) (f : RawFormula) → slice_get p.formula i ≡ Some f → slice_get joints (0 + i) ≡ Some (raw_joint f) =
    λ i f at'. subst (λ j. slice_get joints j ≡ Some (raw_joint f)) (let same : i ≡ 0 + i = omega arith in same) (map_at raw_joint p.formula i f at') in
    let x = made joints spelled.1 (omega (arith, few)) stand in
    let (f, at', is) = at_map raw_joint p.formula n node at in
    subst (OuterMayStand joints) is (x.may n f at')

-- a formula has no more nodes than it counts as
one_weighs : (f : RawFormula) → 1 ≤ formula_weight f
one_weighs (raw_formulas.HasOneUse name) = omega arith
one_weighs f = omega arith

pub formula_weighs : (formula : List RawFormula) → length formula ≤ sum_by formula_weight formula
formula_weighs [] = omega arith
formula_weighs (f ∷ formula) = omega (arith, one_weighs f, formula_weighs formula, sum_by-cons formula_weight f formula)
