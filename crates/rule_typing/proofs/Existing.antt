-- Each rule has its classes.
use Rattle.rule_typing.proofs.Common.{◌≡◌, inl, inr, ℕ, zero, suc, ◌+◌, ◌≤◌, length, Some, refl, get_or, arith, slice_get, cases_lt, slice_get-get_or, Rule, classes_of, Swap, mapped, renamed, numbered, IsRenumbered, IsClassified, IsInOrder, HasClasses, RulesHaveClasses}
use Rattle.rule_typing.proofs.Classified.{rest, classified}
use Rattle.rule_typing.proofs.Joining.{joined_by}
use Rattle.rule_typing.proofs.Merging.{total, not_merged}
use Rattle.rule_typing.proofs.Numbering.{IsNumbered, none_yet, known, given, all_seen, same_count}
use Rattle.rule_typing.proofs.FaultDecisions.{faults_of}

-- going on position by position, each class gets its number
numbers : (old rule : Rule) (left place next : ℕ) → IsNumbered old rule place next → length (classes_of old) ≤ place + left → (new : Rule) × (n : ℕ) × IsRenumbered old new × IsInOrder (classes_of new) × HasClasses new n
numbers old rule zero place next so_far past = let (order, count) = all_seen old rule place next so_far (omega arith) in (rule, next, so_far.renumbered, order, count)
numbers old rule (suc left) place next so_far past = elim (cases_lt place (length (classes_of rule))) [
  | inr behind ↦ let (order, count) = all_seen old rule place next so_far (omega (arith, same_count old rule so_far.renumbered)) in (rule, next, so_far.renumbered, order, count)
  | inl within ↦
      let class : ℕ = get_or (classes_of rule) place 0 in
      let at : slice_get (classes_of rule) place ≡ Some class = slice_get-get_or (classes_of rule) place 0 within in
      elim (cases_lt class next) [
        | inl less ↦ numbers old rule left (place + 1) next (known old rule place next class so_far at less) (omega arith)
        | inr most ↦ let new : Rule = mapped (renamed (Swap class next)) rule in numbers old new left (place + 1) (next + 1) (given old rule new place next class so_far at most refl) (omega arith)
      ]
]

classes_exist : (rule : Rule) → (new : Rule) × (n : ℕ) × (numbered new ≡ numbered rule) × IsClassified new × HasClasses new n
classes_exist rule =
    let base : Rule = numbered rule in
    let (joined, merged, closed) = joined_by base base (suc (total (classes_of base))) (not_merged base) (omega arith) in
    let (new, n, renumbered, order, count) = numbers joined joined (length (classes_of joined)) 0 0 (none_yet joined) (omega arith) in
    (new, n, rest rule base joined new refl merged renumbered, classified rule base joined new refl merged renumbered closed order, count)

pub rules_have_classes : RulesHaveClasses
rules_have_classes rule = let (new, n, same, classes, count) = classes_exist rule in (new, same, classes, faults_of new n classes count)
