-- Repeated names of rules, rule by rule.
use Rattle.rule_reader.proofs.Common.{◌≡◌, inl, inr, ℕ, ◌+◌, ◌<◌, Bool, true, false, cond, List, [], ◌∷◌, ◌++◌, length, length-append, take, Option, None, Some, refl, sym, ap, subst, ◌∙◌, arith, slice_get, IsTrue, is_some, bytes_eq, false≢true, slice_get_within, bytes_eq-Decides, RawRule, HasNameOf, MarksRule, MarksRepeated}
use Rattle.rule_reader.proofs.Places.{order, same_at, at_take, take_at, at_append}

-- the map has the name exactly where one of the rules does
abbrev pub Known : Option (Unit {0}) → List RawRule → List ℕ → Type 0
Known o rules name = (IsTrue (is_some o) → HasNameOf rules name) × (HasNameOf rules name → IsTrue (is_some o))

widen : (rules : List RawRule) (i : ℕ) (name : List ℕ) → HasNameOf (take i rules) name → HasNameOf (take (i + 1) rules) name
widen rules i name (k, other, at, is) = let (lt, at') = at_take i rules k other at in (k, other, take_at (i + 1) rules k other (omega arith) at', is)

narrow : (rules : List RawRule) (i : ℕ) (rule : RawRule) (name : List ℕ) → slice_get rules i ≡ Some rule → ¬ (rule.name ≡ name) → HasNameOf (take (i + 1) rules) name → HasNameOf (take i rules) name
narrow rules i rule name here differ (k, other, at, is) =
    let (lt, at') = at_take (i + 1) rules k other at in
    elim (order k i) [
      | inl before ↦ (k, other, take_at i rules k other before at', is)
      | inr (inl e) ↦
          let same : rule ≡ other = same_at rules i rule other here (subst (λ n. slice_get rules n ≡ Some other) e at') in
          absurd (differ (ap (λ (r : RawRule). r.name) same ∙ is))
      | inr (inr gt) ↦ absurd (omega arith)
    ]

pub known_more : (rules : List RawRule) (i : ℕ) (rule : RawRule) (key name : List ℕ) (old : Option (Unit {0})) → i < length rules → slice_get rules i ≡ Some rule → key ≡ rule.name → Known old (take i rules) name
    → (e : Bool) → e ≡ bytes_eq key name → Known (cond e (Some tt) old) (take (i + 1) rules) name
known_more rules i rule key name old within here is known true e =
    (λ _. (i, rule, take_at (i + 1) rules i rule (omega arith) here, sym is ∙ (bytes_eq-Decides key name).0 (sym e)), λ _. refl)
known_more rules i rule key name old within here is known false e = (
  λ t. widen rules i name (known.0 t),
  λ h. known.1 (narrow rules i rule name here (λ same. false≢true (e ∙ (bytes_eq-Decides key name).1 (is ∙ same))) h),
)

pub known_none : (name : List ℕ) → Known None [] name
known_none name = (λ t. absurd (false≢true t), λ (k, other, at, is). absurd (let lt : k < 0 = slice_get_within [] k other at in omega arith))

-- the flags of the first i rules
pub record MarksFirst (rules : List RawRule) (i : ℕ) (marks : List Bool) : Type 0 where
  pub count : length marks ≡ i
  pub each : (k : ℕ) (raw : RawRule) (mark : Bool) → slice_get rules k ≡ Some raw → slice_get marks k ≡ Some mark → MarksRule mark (take k rules) raw

pub marks_none : (rules : List RawRule) → MarksFirst rules 0 []
marks_none rules = record { count = refl; each = λ k raw mark at at'. absurd (let lt : k < 0 = slice_get_within [] k mark at' in omega arith) }

pub marks_more : (rules : List RawRule) (i : ℕ) (rule : RawRule) (marks marks' : List Bool) (mark : Bool) (o : Option (Unit {0})) (key : List ℕ) → slice_get rules i ≡ Some rule → MarksFirst rules i marks → marks' ≡ marks ++ mark ∷ []
    → mark ≡ is_some o → key ≡ rule.name → Known o (take i rules) key → MarksFirst rules (i + 1) marks'
marks_more rules i rule marks marks' mark o key here first more is key_is known =
    let own : MarksRule mark (take i rules) rule =
    subst (λ n. (IsTrue mark → HasNameOf (take i rules) n) × (HasNameOf (take i rules) n → IsTrue mark)) key_is
    (subst (λ b. (IsTrue b → HasNameOf (take i rules) key) × (HasNameOf (take i rules) key → IsTrue b)) (sym is) known) in
    record {
      count = ap length more ∙ length-append marks (mark ∷ []) ∙ omega (arith, first.count);
      each = λ k raw m at at'. elim (at_append marks (mark ∷ []) k m (subst (λ l. slice_get l k ≡ Some m) more at')) [
        | inl old ↦ first.each k raw m at old
        | inr (j, e, last) ↦
            let zero_j : j < 1 = slice_get_within (mark ∷ []) j m last in
            let first_place : j ≡ 0 = omega arith in
            let k_is : k ≡ i = omega (arith, first.count) in
            let same : rule ≡ raw = same_at rules i rule raw here (subst (λ n. slice_get rules n ≡ Some raw) k_is at) in
            let mark_is : mark ≡ m = same_at (mark ∷ []) 0 mark m refl (subst (λ n. slice_get (mark ∷ []) n ≡ Some m) first_place last) in
            subst (λ b. MarksRule b (take k rules) raw) mark_is (subst (λ r. MarksRule mark (take k rules) r) same (subst (λ n. MarksRule mark (take n rules) rule) (sym k_is) own))
      ];
    }

pub marks_all : (rules : List RawRule) (i : ℕ) (marks : List Bool) → i ≡ length rules → MarksFirst rules i marks → MarksRepeated rules marks
marks_all rules i marks end first = record { count = first.count ∙ end; each = first.each }
