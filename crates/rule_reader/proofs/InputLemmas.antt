-- The names that a source gives, argument by argument.
use Rattle.rule_reader.proofs.Common.{◌≡◌, ◌⊎◌, inl, inr, ℕ, zero, suc, ◌+◌, ◌*◌, ◌<◌, ◌≤◌, List, [], ◌∷◌, ◌++◌, length, length-append, Some, refl, sym, ap, subst, ◌∙◌, arith, take, get_or, append_assoc, slice_get, Contains, flat_map, cases_lt, take_more, take_all, append-nil, flat_map-append, slice_get_within, Contains-append_left, Contains-push, Contains-push_cases, RawStatement, RawOp, Binary, Compare, Unary, Select, Convert, Freeze, Copy, RawArgument, Contains-from_get, get-append_left, Names, arguments_of, arguments_among, GivenAt, AreFirstGiven, GivesInput, GivesConstant, AreNames, Adds, AddsNames, AreNamesAmong, AddsUses}
use Rattle.rule_reader.proofs.Places.{at_append, there}

none_at : {X : Type 0} (k : ℕ) (x : X) → slice_get [] k ≡ Some x → ⊥
none_at zero x at = cc
none_at (suc k) x at = cc

-- an element of a list that one was appended to is an old one or that one
at_end : {X : Type 0} (xs : List X) (y : X) (k : ℕ) (x : X) → slice_get (xs ++ y ∷ []) k ≡ Some x → (slice_get xs k ≡ Some x) ⊎ ((k ≡ length xs) × (y ≡ x))
at_end xs y k x at = elim (at_append xs (y ∷ []) k x at) [
  | inl here ↦ inl here
  | inr (j, is, last) ↦ inr (elim j as (λ i. k ≡ length xs + i → slice_get (y ∷ []) i ≡ Some x → (k ≡ length xs) × (y ≡ x)) [
    | zero ↦ λ e h. (omega arith, cc)
    | suc zero ↦ λ e h. cc
    | suc (suc i) ↦ λ e h. cc
  ] is last)
]

last_at : {X : Type 0} (xs : List X) (y : X) → slice_get (xs ++ y ∷ []) (length xs) ≡ Some y
last_at [] y = refl
last_at (x ∷ xs) y = last_at xs y

-- an argument gives one name or none
abbrev pub GivesOne : (RawArgument → List ℕ → Type 0) → Type 0
GivesOne Gives = (a : RawArgument) (m n : List ℕ) → Gives a m → Gives a n → m ≡ n

pub one_input : (source : List RawStatement) → GivesOne (GivesInput source)
one_input source a m n p q = let e = p.0 in let e' = q.0 in cc

pub one_constant : GivesOne GivesConstant
one_constant a m n p q = cc

none_given : (Gives : RawArgument → List ℕ → Type 0) → AreFirstGiven Gives [] []
none_given Gives =
    record {
      each = λ name. (λ (k, within, is). absurd (omega arith), λ (q, found). absurd (none_at q found.0 found.1));
      once = λ j k name p q. absurd (none_at j name p);
      in_order = λ h i q m n lt p. absurd (none_at h m p);
    }

module _ (Gives : RawArgument → List ℕ → Type 0) (one : GivesOne Gives) (os : List RawArgument) (names : List (List ℕ)) (first : AreFirstGiven Gives os names) where
  earlier : (a : RawArgument) (q : ℕ) (n : List ℕ) → GivenAt Gives os q n → GivenAt Gives (os ++ a ∷ []) q n
  earlier a q n (b, at, gives) = (b, get-append_left os (a ∷ []) q b at, gives)

  given : (n : List ℕ) → Contains names n → (q : ℕ) × GivenAt Gives os q n
  given n among = (first.each n).0 among

  within : (q : ℕ) (n : List ℕ) → GivenAt Gives os q n → q < length os
  within q n (b, at, gives) = slice_get_within os q b at

  last_or : (a : RawArgument) (q : ℕ) (n : List ℕ) → GivenAt Gives (os ++ a ∷ []) q n → GivenAt Gives os q n ⊎ ((q ≡ length os) × Gives a n)
  last_or a q n (b, at, gives) = elim (at_end os a q b at) [ inl before ↦ inl (b, before, gives) | inr (e, is) ↦ inr (e, subst (λ x. Gives x n) (sym is) gives) ]

  -- an operand that gives no new name
  keeps : (a : RawArgument) → ((name : List ℕ) → Gives a name → Contains names name) → AreFirstGiven Gives (os ++ a ∷ []) names
  keeps a old =
      record {
        each = λ n. (
          λ among. let (q, at) = given n among in (q, earlier a q n at),
          λ (q, at). elim (last_or a q n at) [ inl before ↦ (first.each n).1 (q, before) | inr (e, gives) ↦ old n gives ],
        );
        once = first.once;
        in_order = λ h i q m n lt p r at. elim (last_or a q n at) [
          | inl before ↦ let (x, lt', at') = first.in_order h i q m n lt p r before in (x, lt', earlier a x m at')
          | inr (e, gives) ↦ let (x, at') = given m (Contains-from_get names h m p) in let inside : x < length os = within x m at' in (x, omega arith, earlier a x m at')
        ];
      }

  adds : (a : RawArgument) (name : List ℕ) → Gives a name → ¬ Contains names name → AreFirstGiven Gives (os ++ a ∷ []) (names ++ name ∷ [])
  adds a name gives new =
      record {
        each = λ n. (
          λ among. elim (Contains-push_cases names name n among) [
            | inl old ↦ let (q, at) = given n old in (q, earlier a q n at)
            | inr is ↦ (length os, (a, last_at os a, subst (Gives a) is gives))
          ],
          λ (q, at). elim (last_or a q n at) [
            | inl before ↦ Contains-append_left names (name ∷ []) n ((first.each n).1 (q, before))
            | inr (e, gives') ↦ subst (Contains (names ++ name ∷ [])) (one a name n gives gives') (Contains-push names name)
          ],
        );
        once = λ j k n p q. elim (at_end names name j n p) [
          | inl p' ↦ elim (at_end names name k n q) [
            | inl q' ↦ first.once j k n p' q'
            | inr (e, is) ↦ absurd (new (Contains-from_get names j name (p' ∙ ap (λ x. Some x) (sym is))))
          ]
          | inr (e, is) ↦ elim (at_end names name k n q) [
            | inl q' ↦ absurd (new (Contains-from_get names k name (q' ∙ ap (λ x. Some x) (sym is))))
            | inr (e', is') ↦ omega arith
          ]
        ];
        in_order = λ h i q m n lt p r at. elim (at_end names name h m p) [
          | inr (e, is) ↦ let inside : i < length (names ++ name ∷ []) = slice_get_within (names ++ name ∷ []) i n r in absurd (omega (arith, length-append names (name ∷ [])))
          | inl p' ↦ let (x, at') = given m (Contains-from_get names h m p') in
              let inside : x < length os = within x m at' in
              elim (at_end names name i n r) [
                | inl r' ↦ elim (last_or a q n at) [
                  | inl before ↦ let (y, before', at'') = first.in_order h i q m n lt p' r' before in (y, before', earlier a y m at'')
                  | inr (e, gives') ↦ (x, omega arith, earlier a x m at')
                ]
                | inr (e, is) ↦ elim (last_or a q n at) [
                  | inl before ↦ absurd (new ((first.each name).1 (q, subst (GivenAt Gives os q) (sym is) before)))
                  | inr (e', gives') ↦ (x, omega arith, earlier a x m at')
                ]
              ]
        ];
      }

  more_given : (a : RawArgument) (after : List (List ℕ)) → Adds Gives names a after → AreFirstGiven Gives (os ++ a ∷ []) after
  more_given a after (inl (name, gives, inl (new, is))) = subst (AreFirstGiven Gives (os ++ a ∷ [])) (sym is) (adds a name gives new)
  more_given a after (inl (name, gives, inr (old, is))) = subst (AreFirstGiven Gives (os ++ a ∷ [])) (sym is) (keeps a (λ n gives'. subst (Contains names) (one a name n gives gives') old))
  more_given a after (inr (none, is)) = subst (AreFirstGiven Gives (os ++ a ∷ [])) (sym is) (keeps a (λ n gives'. absurd (none n gives')))

-- ---- inputs and constants

pub no_names : (source : List RawStatement) → AreNamesAmong source [] (record { inputs = []; constants = [] })
no_names source = record { inputs = none_given (GivesInput source); constants = none_given GivesConstant }

pub more_names : (source : List RawStatement) (os : List RawArgument) (before after : Names) (a : RawArgument) → AreNamesAmong source os before → AddsNames source before a after → AreNamesAmong source (os ++ a ∷ []) after
more_names source os before after a among added =
    record {
      inputs = more_given (GivesInput source) (one_input source) os before.inputs among.inputs a after.inputs added.inputs;
      constants = more_given GivesConstant one_constant os before.constants among.constants a after.constants added.constants;
    }

pub all_names : (source : List RawStatement) (names : Names) → AreNamesAmong source (arguments_among source) names → AreNames source names
all_names source names among = record { inputs = among.inputs; constants = among.constants }

-- name number i is given by operand i or a later one
at_most : (Gives : RawArgument → List ℕ → Type 0) (os : List RawArgument) (names : List (List ℕ)) (i q : ℕ) (name : List ℕ) → AreFirstGiven Gives os names → slice_get names i ≡ Some name → GivenAt Gives os q name → i ≤ q
at_most Gives os names zero q name first at given = omega arith
at_most Gives os names (suc h) q name first at given =
    let within : suc h < length names = slice_get_within names (suc h) name at in
    let (m, at') = there names h (omega arith) in
    let (p, before, earlier) = first.in_order h (suc h) q m name (omega arith) at' at given in
    let rest : h ≤ p = at_most Gives os names h p m first at' earlier in
    omega arith

few_of_op : (op : RawOp) → length (arguments_of op) ≤ 3
few_of_op (Binary op flags a b) = omega arith
few_of_op (Compare pred samesign a b) = omega arith
few_of_op (Unary op truth a) = omega arith
few_of_op (Select c a b) = omega arith
few_of_op (Convert cast flags a to) = omega arith
few_of_op (Freeze a) = omega arith
few_of_op (Copy a) = omega arith

few_of : (ss : List RawStatement) → length (arguments_among ss) ≤ 3 * length ss
few_of [] = omega arith
few_of (s ∷ ss) = let one = few_of_op s.op in let rest = few_of ss in omega (arith, length-append (arguments_of s.op) (arguments_among ss))

-- a half of at most 32 statements gives at most 96 names
few_given : (Gives : RawArgument → List ℕ → Type 0) (source : List RawStatement) (names : List (List ℕ)) → AreFirstGiven Gives (arguments_among source) names → length source ≤ 32 → length names ≤ 96
few_given Gives source names first few = elim (cases_lt 96 (length names)) [
  | inr le ↦ le
  | inl more ↦
      let (name, at) = there names 96 more in
      let (q, given) = (first.each name).0 (Contains-from_get names 96 name at) in
      let late : 96 ≤ q = at_most Gives (arguments_among source) names 96 q name first at given in
      let inside : q < length (arguments_among source) = slice_get_within (arguments_among source) q given.0 given.1 in
      absurd (omega (arith, few_of source))
]

pub few_inputs : (source : List RawStatement) (names : Names) → AreNames source names → length source ≤ 32 → length names.inputs ≤ 96
few_inputs source names are few = few_given (GivesInput source) source names.inputs are.inputs few

pub few_constants : (source : List RawStatement) (names : Names) → AreNames source names → length source ≤ 32 → length names.constants ≤ 96
few_constants source names are few = few_given GivesConstant source names.constants are.constants few

-- the operands of a statement
pub one_use : (source : List RawStatement) (before after : Names) (a : RawArgument) → AddsNames source before a after → AddsUses source before (a ∷ []) after
one_use source before after a added os uses = more_names source os before after a uses added

behind : (source : List RawStatement) (before between after : Names) (a : RawArgument) (more : List RawArgument) → AddsNames source before a between → AddsUses source between more after → AddsUses source before (a ∷ more) after
behind source before between after a more first rest os uses =
    subst (λ x. AreNamesAmong source x after) (append_assoc os (a ∷ []) more) (rest (os ++ a ∷ []) (more_names source os before between a uses first))

pub two_uses : (source : List RawStatement) (before between after : Names) (a b : RawArgument) → AddsNames source before a between → AddsNames source between b after → AddsUses source before (a ∷ b ∷ []) after
two_uses source before between after a b first second = behind source before between after a (b ∷ []) first (one_use source between after b second)

pub three_uses : (source : List RawStatement) (before between later after : Names) (a b c : RawArgument) → AddsNames source before a between → AddsNames source between b later → AddsNames source later c after → AddsUses source before (a ∷ b ∷ c ∷ []) after
three_uses source before between later after a b c first second third = behind source before between after a (b ∷ c ∷ []) first (two_uses source between later after b c second third)

pub uses_of_op : (source : List RawStatement) (op : RawOp) (before after : Names) (read : List RawArgument) → arguments_of op ≡ read → AddsUses source before read after → AddsUses source before (arguments_of op) after
uses_of_op source op before after read is uses = subst (λ l. AddsUses source before l after) (sym is) uses

-- one more statement
pub uses_more : (source : List RawStatement) (i : ℕ) (s : RawStatement) (before after : Names) → i < length source → s ≡ get_or source i s
    → AreNamesAmong source (arguments_among (take i source)) before
    → AddsUses source before (arguments_of s.op) after
    → AreNamesAmong source (arguments_among (take (i + 1) source)) after
uses_more source i s before after within is uses step =
    let f : RawStatement → List RawArgument = λ s. arguments_of s.op in
    let parts : flat_map f (take (i + 1) source) ≡ flat_map f (take i source) ++ arguments_of s.op =
    ap (flat_map f) (take_more source i s within ∙ ap (λ x. take i source ++ x ∷ []) (sym is)) ∙ flat_map-append f (take i source) (s ∷ []) ∙ ap (λ l. flat_map f (take i source) ++ l) (append-nil (arguments_of s.op)) in
    subst (λ os. AreNamesAmong source os after) (sym parts) (step (flat_map f (take i source)) uses)

pub all_uses : (source : List RawStatement) (i : ℕ) (names : Names) → length source ≤ i → AreNamesAmong source (arguments_among (take i source)) names → AreNames source names
all_uses source i names past uses = all_names source names (subst (λ l. AreNamesAmong source (arguments_among l) names) (take_all i source past) uses)
