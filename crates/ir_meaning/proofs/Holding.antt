-- What registers hold after an instruction ran last.
use Rattle.ir_meaning.proofs.Common.{◌≡◌, ℕ, suc, ◌<◌, ◌⊎◌, inl, inr, List, [], ◌∷◌, ◌++◌, length, map, Some, refl, sym, ap, subst, ◌∙◌, arith, Contains, cases_eq, slice_get_within, Value, Function, Inst, Register, IsAssigned, HasInst, IsInst, IsWalk, Place, IsPath, Moment, InstGives, Runs, IsStep, IsHistory, LastRan, AssignedHasRun, ResultsAreHeld, OperandsAreHeld, NothingNamedChangesInOneVisit}
use Rattle.ops.specs.declared.value.Effect.TheVariants as effects
use Rattle.ir_core.specs.declared.operand.Register.TheVariants as registers
use Rattle.ir_meaning.proofs.Pieces.{not_in_empty, first_in, later_in, cases_in}
use Rattle.ir_meaning.specs.Histories.{place_of}
use Rattle.ir_meaning.proofs.Assignments.{not_both_assigned}
use Rattle.ir_meaning.proofs.PathLemmas.{same_place, assigned_passed, defined_before, path_before, path_reaches}
use Rattle.ir_meaning.proofs.Steps.{held_here, step_keeps, step_keeps_parameter, step_gives, histories_paths}

-- ---- the last time that an instruction ran

place_or : (p : Place) (d j : ℕ) → (p ≡ (d, j)) ⊎ (p ≡ (d, j) → ⊥)
place_or p d j =
    elim (cases_eq d p.0) [
      | inr ne ↦ inr (λ is. ne (sym (ap (λ (q : Place). q.0) is)))
      | inl same ↦ elim (cases_eq j p.1) [
        | inr ne ↦ inr (λ is. ne (sym (ap (λ (q : Place). q.1) is)))
        | inl here ↦ inl (same_place p d j same here)
      ]
    ]

abbrev HasLast : ℕ → ℕ → List Moment → Type 0
HasLast d j before = (later : List Moment) × (last : Moment) × (earlier : List Moment) × LastRan d j before later last earlier

last_time : (d j : ℕ) (before : List Moment) → Contains (map place_of before) (d, j) → HasLast d j before
last_time d j [] has = absurd (not_in_empty (d, j) has)
last_time d j (n ∷ before) has =
    elim (place_or (place_of n) d j) [
      | inl here ↦ ([], n, before, record { split = refl; there = here; not_since = λ x none. absurd (not_in_empty x none) })
      | inr ne ↦ elim (cases_in (place_of n) (map place_of before) (d, j) has) [
        | inl here ↦ absurd (ne here)
        | inr later ↦
            let r : HasLast d j before = last_time d j before later in (
              n ∷ r.0,
              r.1,
              r.2,
              record {
                split = ap (λ (l : List Moment). n ∷ l) r.3.split;
                there = r.3.there;
                not_since = λ x has is. elim (cases_in n r.0 x has) [
                  | inl same ↦ ne (ap place_of same ∙ is)
                  | inr further ↦ r.3.not_since x further is
                ];
              },
            )
      ]
    ]

pub assigned_ran : AssignedHasRun
assigned_ran f args d j m before h a =
    last_time d j before (assigned_passed f d j (place_of m) (map place_of before) (histories_paths f args (m ∷ before) h) a)

-- ---- what registers hold since then

-- a result whose instruction didn't run since holds what it held
kept_since : (f : Function) (args : List Value) (d j : ℕ) (m : Moment) (later : List Moment) (last : Moment) (earlier : List Moment) → IsHistory f args (m ∷ later ++ last ∷ earlier)
    → ((n : Moment) → Contains later n → place_of n ≡ (d, j) → ⊥) → (place_of last ≡ (d, j) → ⊥) → m.held (registers.Result d j) ≡ last.held (registers.Result d j)
kept_since f args d j m [] last earlier h none other = step_keeps f last m d j h.0 other
kept_since f args d j m (n ∷ later) last earlier h none other =
    step_keeps f n m d j h.0 (none n (first_in n later)) ∙ kept_since f args d j n later last earlier h.1 (λ x has. none x (later_in n later x has)) other

parameter_since : (f : Function) (args : List Value) (p : ℕ) (m : Moment) (later : List Moment) (last : Moment) (earlier : List Moment) → IsHistory f args (m ∷ later ++ last ∷ earlier)
    → m.held (registers.Parameter p) ≡ last.held (registers.Parameter p)
parameter_since f args p m [] last earlier h = step_keeps_parameter f last m p h.0
parameter_since f args p m (n ∷ later) last earlier h = step_keeps_parameter f n m p h.0 ∙ parameter_since f args p n later last earlier h.1

-- the instruction at a moment gave this value, which its result holds at another
abbrev Given : Function → ℕ → ℕ → Moment → Moment → Type 0
Given f d j last m = (inst : Inst) × (v : Value) × IsInst f d j inst × InstGives last inst (effects.Gives v) × (m.held (registers.Result d j) ≡ Some v)

given_by : (f : Function) (d j : ℕ) (last m : Moment) → place_of last ≡ (d, j) → Runs f last m → Given f d j last m
given_by f d j last m there r =
    let block : last.block ≡ d = ap (λ (q : Place). q.0) there in
    let place : last.place ≡ j = ap (λ (q : Place). q.1) there in (
      r.inst,
      r.value,
      subst (λ k. IsInst f d k r.inst) place (subst (λ b. IsInst f b last.place r.inst) block r.is_inst),
      r.gives,
      ap (λ (x : Moment). x.held (registers.Result d j)) r.next ∙ held_here last.held last.block last.place r.value d j (sym block) (sym place),
    )

given_since : (f : Function) (args : List Value) (d j : ℕ) (m : Moment) (later : List Moment) (last : Moment) (earlier : List Moment) → HasInst f d j → IsHistory f args (m ∷ later ++ last ∷ earlier)
    → place_of last ≡ (d, j) → ((n : Moment) → Contains later n → place_of n ≡ (d, j) → ⊥) → Given f d j last m
given_since f args d j m [] last earlier has h there none =
    let block : last.block ≡ d = ap (λ (q : Place). q.0) there in
    let place : last.place ≡ j = ap (λ (q : Place). q.1) there in
    given_by f d j last m there (step_gives f last m (subst (λ k. HasInst f last.block k) (sym place) (subst (λ b. HasInst f b j) (sym block) has)) h.0)
given_since f args d j m (n ∷ later) last earlier has h there none =
    let g : Given f d j last n = given_since f args d j n later last earlier has h.1 there (λ x y. none x (later_in n later x y)) in
    (g.0, g.1, g.2, g.3, step_keeps f n m d j h.0 (none n (first_in n later)) ∙ g.4)

history_split : (f : Function) (args : List Value) (m : Moment) (before later : List Moment) (last : Moment) (earlier : List Moment) → before ≡ later ++ last ∷ earlier → IsHistory f args (m ∷ before) → IsHistory f args (m ∷ later ++ last ∷ earlier)
history_split f args m before later last earlier split h = subst (λ (l : List Moment). IsHistory f args (m ∷ l)) split h

pub results_held : ResultsAreHeld
results_held f args d j m before later last earlier has h l =
    given_since f args d j m later last earlier has (history_split f args m before later last earlier l.split h) l.there l.not_since

-- ---- what is assigned at an instruction holds since then what it held

places_split : (later : List Moment) (last : Moment) (earlier : List Moment) → map place_of (later ++ last ∷ earlier) ≡ map place_of later ++ place_of last ∷ map place_of earlier
places_split [] last earlier = refl
places_split (n ∷ later) last earlier = ap (λ (l : List Place). place_of n ∷ l) (places_split later last earlier)

in_places : (later : List Moment) (n : Moment) → Contains later n → Contains (map place_of later) (place_of n)
in_places [] n has = absurd (not_in_empty n has)
in_places (x ∷ later) n has =
    elim (cases_in x later n has) [
      | inl is ↦ subst (λ (y : Moment). Contains (place_of x ∷ map place_of later) (place_of y)) is (first_in (place_of x) (map place_of later))
      | inr further ↦ later_in (place_of x) (map place_of later) (place_of n) (in_places later n further)
    ]

from_places : (later : List Moment) (p : Place) → Contains (map place_of later) p → (n : Moment) × Contains later n × (place_of n ≡ p)
from_places [] p has = absurd (not_in_empty p has)
from_places (x ∷ later) p has =
    elim (cases_in (place_of x) (map place_of later) p has) [
      | inl is ↦ (x, first_in x later, is)
      | inr further ↦ let r = from_places later p further in (r.0, later_in x later r.0 r.1, r.2)
    ]

-- the places of a history that is split at a moment are a path split there
split_path : (f : Function) (args : List Value) (d j : ℕ) (m : Moment) (later : List Moment) (last : Moment) (earlier : List Moment) → IsHistory f args (m ∷ later ++ last ∷ earlier) → place_of last ≡ (d, j)
    → IsPath f (place_of m ∷ map place_of later ++ (d, j) ∷ map place_of earlier)
split_path f args d j m later last earlier h there =
    subst (λ (p : Place). IsPath f (place_of m ∷ map place_of later ++ p ∷ map place_of earlier)) there
    (subst (λ (l : List Place). IsPath f (place_of m ∷ l)) (places_split later last earlier) (histories_paths f args (m ∷ later ++ last ∷ earlier) h))

-- an instruction that ran is in a block that is reached
place_reached : (f : Function) (args : List Value) (d j : ℕ) (m : Moment) (later : List Moment) (last : Moment) (earlier : List Moment) → IsHistory f args (m ∷ later ++ last ∷ earlier) → place_of last ≡ (d, j)
    → (blocks : List ℕ) × IsWalk f (d ∷ blocks)
place_reached f args d j m later last earlier h there =
    path_reaches f (d, j) (map place_of earlier) (path_before f (place_of m) (map place_of later) (d, j) (map place_of earlier) (split_path f args d j m later last earlier h there))

-- a result that is assigned at the instruction that ran is not its own
other_place : (f : Function) (c i d j : ℕ) (last : Moment) → ((blocks : List ℕ) × IsWalk f (d ∷ blocks)) → place_of last ≡ (d, j) → IsAssigned f (registers.Result c i) d j → place_of last ≡ (c, i) → ⊥
other_place f c i d j last reached there a is =
    let both : (c, i) ≡ (d, j) = sym is ∙ there in
    let own : IsAssigned f (registers.Result d j) d j = subst (λ (p : Place). IsAssigned f (registers.Result p.0 p.1) d j) both a in
    not_both_assigned f d j d j reached own own

operand_since : (f : Function) (args : List Value) (o : Register) (d j : ℕ) (m : Moment) (later : List Moment) (last : Moment) (earlier : List Moment) → IsHistory f args (m ∷ later ++ last ∷ earlier)
    → place_of last ≡ (d, j) → ((n : Moment) → Contains later n → place_of n ≡ (d, j) → ⊥)
    → IsAssigned f o d j → IsAssigned f (registers.Result d j) m.block m.place → m.held o ≡ last.held o
operand_since f args (registers.Parameter p) d j m later last earlier h there none a a' = parameter_since f args p m later last earlier h
operand_since f args (registers.Result c i) d j m later last earlier h there none a a' =
    kept_since f args c i m later last earlier h
    (λ n has is. defined_before f c i d j (place_of m) (map place_of later) (map place_of earlier) (split_path f args d j m later last earlier h there)
    (λ again. let r = from_places later (d, j) again in none r.0 r.1 r.2) a a' (subst (Contains (map place_of later)) is (in_places later n has)))
    (other_place f c i d j last (place_reached f args d j m later last earlier h there) there a)

pub operands_held : OperandsAreHeld
operands_held f args o d j m before later last earlier h l a a' =
    operand_since f args o d j m later last earlier (history_split f args m before later last earlier l.split h) l.there l.not_since a a'

-- ---- one visit

-- where a visit of t's block has come to, at moment m behind t
record Behind (f : Function) (t m : Moment) : Type 0 where
  same_block : m.block ≡ t.block
  after : t.place < m.place
  has : HasInst f t.block t.place

step_within : (f : Function) (m n : Moment) → IsStep f m n → 0 < n.place → Runs f m n
step_within f m n (inl r) lt = r
step_within f m n (inr l) lt = let is : n.place ≡ 0 = ap (λ (x : Moment). x.place) l.next in absurd (omega arith)

first_behind : (f : Function) (t m : Moment) → Runs f t m → Behind f t m
first_behind f t m r =
    let is : m.place ≡ suc t.place = ap (λ (x : Moment). x.place) r.next in
    record { same_block = ap (λ (x : Moment). x.block) r.next; after = omega arith; has = (r.is_inst.block, r.is_inst.is_block, inst_within) }
  where
    inst_within : t.place < length r.is_inst.block.insts
    inst_within = slice_get_within r.is_inst.block.insts t.place r.inst r.is_inst.is_inst

next_behind : (f : Function) (t n m : Moment) → Runs f n m → Behind f t n → Behind f t m
next_behind f t n m r b =
    let is : m.place ≡ suc n.place = ap (λ (x : Moment). x.place) r.next in
    let lt : t.place < n.place = b.after in
    record { same_block = ap (λ (x : Moment). x.block) r.next ∙ b.same_block; after = omega arith; has = b.has }

behind : (f : Function) (args : List Value) (m : Moment) (later : List Moment) (t : Moment) (earlier : List Moment) → IsHistory f args (m ∷ later ++ t ∷ earlier)
    → ((n : Moment) → Contains (m ∷ later) n → 0 < n.place) → (n : Moment) → Contains (m ∷ later) n → Behind f t n
behind f args m [] t earlier h visit n has =
    elim (cases_in m [] n has) [
      | inl is ↦ subst (Behind f t) is (first_behind f t m (step_within f t m h.0 (visit m (first_in m []))))
      | inr none ↦ absurd (not_in_empty n none)
    ]
behind f args m (x ∷ later) t earlier h visit n has =
    let rest : (n : Moment) → Contains (x ∷ later) n → Behind f t n = behind f args x later t earlier h.1 (λ y in'. visit y (later_in m (x ∷ later) y in')) in
    elim (cases_in m (x ∷ later) n has) [
      | inl is ↦ subst (Behind f t) is (next_behind f t x m (step_within f x m h.0 (visit m (first_in m (x ∷ later)))) (rest x (first_in x later)))
      | inr further ↦ rest n further
    ]

pub one_visit : NothingNamedChangesInOneVisit
one_visit f args o m later t earlier h visit a =
    let all : (n : Moment) → Contains (m ∷ later) n → Behind f t n = behind f args m later t earlier h visit in
    let end : Behind f t m = all m (first_in m later) in
    let none : (n : Moment) → Contains later n → place_of n ≡ (t.block, t.place) → ⊥ = λ n has is.
    let lt : t.place < n.place = (all n (later_in m later n has)).after in
    let same : n.place ≡ t.place = ap (λ (p : Place). p.1) is in
    omega arith in
    let here : IsAssigned f (registers.Result t.block t.place) m.block m.place = (end.has, λ before is_walk. inr (sym end.same_block, end.after)) in (
      record { split = refl; there = refl; not_since = none },
      operand_since f args o t.block t.place m later t earlier h refl none a here,
    )
