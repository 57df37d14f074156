-- Merging one pair of classes after the other, until each constraint's two classes are one, comes to an end.
use Rattle.rule_typing.proofs.Common.{◌≡◌, ◌≢◌, ◌⊎◌, inl, inr, ℕ, zero, suc, ◌<◌, min, max, refl, subst, sym, arith, Contains, cases_lt, Rule, Line, classes_of, Merge, mapped, renamed, IsMerged}
use Rattle.rule_typing.proofs.Relabelled.{classes_of-mapped}
use Rattle.rule_typing.proofs.MappedLines.{line_classes}
use Rattle.rule_typing.proofs.Merging.{total, one_more, sum_falls}
use Rattle.rule_typing.proofs.Splitting.{split_or_joined}

-- two different classes of one constraint, the greater one first
pub record IsPair (rule : Rule) (from to : ℕ) : Type 0 where
  pub less : to < from
  pub stands : Contains (classes_of rule) from
  pub on : Line rule from to ⊎ Line rule to from

pub pair : (rule : Rule) (a b from to : ℕ) → Line rule a b → a ≢ b → from ≡ max a b → to ≡ min a b → IsPair rule from to
pair rule a b from to on apart is is' = elim (cases_lt a b) [
  | inl less ↦ let greater : from ≡ b = omega arith in let lesser : to ≡ a = omega arith in
      rw (greater, lesser) (record { less = less; stands = (line_classes rule a b on).1; on = inr on })
  | inr most ↦ let greater : from ≡ a = omega arith in let lesser : to ≡ b = omega arith in
      rw (greater, lesser) (record { less = omega arith; stands = (line_classes rule a b on).0; on = inl on })
]

pub falls : (rule new : Rule) (from to : ℕ) → IsPair rule from to → new ≡ mapped (renamed (Merge from to)) rule → total (classes_of new) < total (classes_of rule)
falls rule new from to two is = rw (is, classes_of-mapped (renamed (Merge from to)) rule) (sum_falls from to two.less (classes_of rule) two.stands)

pub more : (old rule new : Rule) (from to : ℕ) → IsMerged old rule → IsPair rule from to → new ≡ mapped (renamed (Merge from to)) rule → IsMerged old new
more old rule new from to merged two is = subst (IsMerged old) (sym is) (one_more old rule merged from to two.on)

-- each merge makes the sum of the positions' numbers smaller
pub joined_by : (old rule : Rule) (bound : ℕ) → IsMerged old rule → total (classes_of rule) < bound → (new : Rule) × IsMerged old new × ((c d : ℕ) → Line new c d → c ≡ d)
joined_by old rule zero merged below = absurd (omega arith)
joined_by old rule (suc bound) merged below = elim (split_or_joined rule) [
  | inr joined ↦ (rule, merged, joined)
  | inl (c, d, on, apart) ↦
      let two : IsPair rule (max c d) (min c d) = pair rule c d (max c d) (min c d) on apart refl refl in
      let next : Rule = mapped (renamed (Merge (max c d) (min c d))) rule in
      joined_by old next bound (more old rule next (max c d) (min c d) merged two refl) (omega (arith, falls rule next (max c d) (min c d) two refl))
]
