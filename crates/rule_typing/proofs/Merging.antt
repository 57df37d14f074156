-- One merge of two classes that a chain of constraints joins.
use Rattle.rule_typing.proofs.Common.{◌≡◌, ◌≢◌, ◌⊎◌, inl, inr, ℕ, zero, suc, ◌+◌, ◌<◌, ◌≤◌, List, [], ◌∷◌, map, sym, ap, subst, ◌∙◌, arith, sum_by, Contains, sum_by-cons, cases_eq, nat_tests, Rule, Line, IsRule, Merge, mapped, renamed, Joined, line, turned, along, IsMerged}
use Rattle.rule_typing.specs.Classes.{itself}
use Rattle.rule_typing.proofs.Relabelled.{mapped-id, mapped-mapped, alike_mapped}
use Rattle.rule_typing.proofs.AlikeRules.{IsRule-alike}
use Rattle.rule_typing.proofs.MappedLines.{from_line_map}

pub merged_here : (a b : ℕ) → renamed (Merge a b) a ≡ b
merged_here a b = grind (arith, nat_tests)

pub merged_other : (a b c : ℕ) → c ≢ a → renamed (Merge a b) c ≡ c
merged_other a b c other = grind (arith, nat_tests)

-- the sum of the positions' numbers, which gets smaller with each merge
abbrev pub total : List ℕ → ℕ
total xs = sum_by (λ c. c) xs

total-cons : (x : ℕ) (xs : List ℕ) → total (x ∷ xs) ≡ x + total xs
total-cons x xs = sum_by-cons (λ (c : ℕ). c) x xs

-- it gets smaller where a position has the class that gives up its number
sum_merged : (a b : ℕ) → b < a → (xs : List ℕ) → total (map (renamed (Merge a b)) xs) ≤ total xs
sum_merged a b less [] = omega arith
sum_merged a b less (x ∷ xs) = elim (cases_eq x a) [
  | inl same ↦ let e : renamed (Merge a b) x ≡ b = ap (renamed (Merge a b)) same ∙ merged_here a b in omega (arith, total-cons x xs, total-cons (renamed (Merge a b) x) (map (renamed (Merge a b)) xs), sum_merged a b less xs)
  | inr other ↦ omega (arith, total-cons x xs, total-cons (renamed (Merge a b) x) (map (renamed (Merge a b)) xs), merged_other a b x other, sum_merged a b less xs)
]

pub sum_falls : (a b : ℕ) → b < a → (xs : List ℕ) → Contains xs a → total (map (renamed (Merge a b)) xs) < total xs
sum_falls a b less [] (k, within, is) = absurd (omega arith)
sum_falls a b less (x ∷ xs) (zero, within, is) =
    let e : renamed (Merge a b) x ≡ b = ap (renamed (Merge a b)) is ∙ merged_here a b in omega (arith, total-cons x xs, total-cons (renamed (Merge a b) x) (map (renamed (Merge a b)) xs), sum_merged a b less xs)
sum_falls a b less (x ∷ xs) (suc k, within, is) = elim (cases_eq x a) [
  | inl same ↦ let e : renamed (Merge a b) x ≡ b = ap (renamed (Merge a b)) same ∙ merged_here a b in omega (arith, total-cons x xs, total-cons (renamed (Merge a b) x) (map (renamed (Merge a b)) xs), sum_falls a b less xs (k, omega arith, is))
  | inr other ↦ omega (arith, total-cons x xs, total-cons (renamed (Merge a b) x) (map (renamed (Merge a b)) xs), merged_other a b x other, sum_falls a b less xs (k, omega arith, is))
]

-- classes that have one number after the merge had one before, or are the merged ones
merged_cases : (a b c d : ℕ) → renamed (Merge a b) c ≡ renamed (Merge a b) d → (c ≡ d) ⊎ (((c ≡ a) × (d ≡ b)) ⊎ ((c ≡ b) × (d ≡ a)))
merged_cases a b c d same = elim (cases_eq c a) [
  | inl here ↦ elim (cases_eq d a) [
    | inl there ↦ inl (here ∙ sym there)
    | inr other ↦ inr (inl (here, sym (merged_other a b d other) ∙ sym same ∙ ap (renamed (Merge a b)) here ∙ merged_here a b))
  ]
  | inr other ↦ elim (cases_eq d a) [
    | inl there ↦ inr (inr (sym (merged_other a b c other) ∙ same ∙ ap (renamed (Merge a b)) there ∙ merged_here a b, there))
    | inr other' ↦ inl (sym (merged_other a b c other) ∙ same ∙ merged_other a b d other')
  ]
]

pub not_merged : (rule : Rule) → IsMerged rule rule
not_merged rule = record { to = λ c. c; is = sym (mapped-id rule); joined = λ c d same. subst (Joined rule c) same itself }

pub IsRule-merged : (old new : Rule) → IsRule old → IsMerged old new → IsRule new
IsRule-merged old new checked merged = subst IsRule (sym merged.is) (IsRule-alike old (mapped merged.to old) (sym (alike_mapped merged.to old)) checked)

-- what a constraint of the merged rule asks to be equal was joined in the old rule
line_was_joined : (old new : Rule) (merged : IsMerged old new) (a b c d : ℕ) → Line new a b → merged.to c ≡ a → merged.to d ≡ b → Joined old c d
line_was_joined old new merged a b c d on c_is d_is =
    let (p, q, before, a_is, b_is) = from_line_map merged.to old a b (subst (λ r. Line r a b) merged.is on) in
    along (merged.joined c p (c_is ∙ a_is)) (along (line before) (merged.joined q d (sym b_is ∙ sym d_is)))

pub one_more : (old new : Rule) → IsMerged old new → (a b : ℕ) → Line new a b ⊎ Line new b a → IsMerged old (mapped (renamed (Merge a b)) new)
one_more old new merged a b on =
    record {
      to = λ c. renamed (Merge a b) (merged.to c);
      is = ap (mapped (renamed (Merge a b))) merged.is ∙ mapped-mapped (renamed (Merge a b)) merged.to old;
      joined = λ c d same. elim (merged_cases a b (merged.to c) (merged.to d) same) [
        | inl before ↦ merged.joined c d before
        | inr two ↦ elim two [
          | inl (c_is, d_is) ↦ elim on [
            | inl h ↦ line_was_joined old new merged a b c d h c_is d_is
            | inr h ↦ turned (line_was_joined old new merged b a d c h d_is c_is)
          ]
          | inr (c_is, d_is) ↦ elim on [
            | inl h ↦ turned (line_was_joined old new merged a b d c h d_is c_is)
            | inr h ↦ line_was_joined old new merged b a c d h c_is d_is
          ]
        ]
      ];
    }
