-- Which fault the classes of a rule have, or that they have none, is decided.
use Rattle.rule_typing.proofs.Common.{◌⊎◌, inl, inr, ℕ, ◌≤◌, map_dec, dec_le, Rule, Operand, Argument, operands_of, classes_of, ClassFault, IsClassified, HasClasses, IsName, IsNameOf, NamesClass, HasNoTyping, IsOpen, IsFault, HasNoFault}
use Rattle.rule_core.specs.declared.rule.Argument.TheVariants as arguments
use Rattle.rule_typing.specs.declared.classes.ClassFault.TheVariants as faults
use Rattle.rule_typing.proofs.Deciding.{dec_both, dec_either, dec_not, dec_number, dec_one}
use Rattle.rule_typing.proofs.WidthDecisions.{dec_fixed}
use Rattle.rule_typing.proofs.Decided.{typing_decided}

dec_no_typing : (rule : Rule) (n : ℕ) → IsClassified rule → HasClasses rule n → Dec (HasNoTyping rule)
dec_no_typing rule n classes count = elim (typing_decided rule n classes count) [
  | yes (typing, typed) ↦ no (λ none. none typing typed)
  | no none ↦ yes (λ typing typed. none (typing, typed))
]

dec_reads : (c : ℕ) (o : Operand) → Dec (IsNameOf c o)
dec_reads c o = dec_both (dec_number o.class c) (by_value o.value)
  where
    by_value : (value : Argument) → Dec (IsName value)
    by_value (arguments.Register r) = yes tt
    by_value (arguments.Constant k) = yes tt
    by_value (arguments.Literal z) = no (λ h. h)
    by_value (arguments.Truth b) = no (λ h. h)
    by_value (arguments.Undef k) = no (λ h. h)
    by_value (arguments.Term n) = no (λ h. h)

dec_open : (rule : Rule) (c : ℕ) → Dec (IsOpen rule c)
dec_open rule c =
    dec_both (dec_not (dec_one (NamesClass c) rule.source (λ s. dec_either (dec_number s.class c) (dec_one (IsNameOf c) (operands_of s.op) (dec_reads c)))))
    (map_dec (λ none N fixes. none (N, fixes)) (λ none (N, fixes). none N fixes) (dec_not (dec_fixed rule c)))

pub faults_of : (rule : Rule) (n : ℕ) → IsClassified rule → HasClasses rule n → HasNoFault rule ⊎ ((fault : ClassFault) × IsFault rule fault)
faults_of rule n classes count = elim (dec_one (λ c. 8 ≤ c) (classes_of rule) (dec_le 8)) [
  | yes many ↦ inr (faults.TooMany, many)
  | no few ↦ elim (dec_no_typing rule n classes count) [
    | yes none ↦ inr (faults.NoType, (few, none))
    | no typed ↦ elim (dec_one (IsOpen rule) (classes_of rule) (dec_open rule)) [
      | yes opened ↦ inr (faults.OpenType, (few, typed, opened))
      | no closed ↦ inl (record { few = few; typed = typed; closed = closed })
    ]
  ]
]
