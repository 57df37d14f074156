-- Each text has a list of rules or a fault.
use Rattle.rule_reader.proofs.Common.{◌≡◌, ◌⊎◌, inl, inr, ℕ, zero, suc, ◌+◌, ◌≤◌, List, [], ◌∷◌, ◌++◌, length, take, None, Some, refl, sym, arith, cases_lt, RawRule, IsWritten, TextsHaveOneReadingOrFault, Rule, RulesHaveClasses, RuleFault, IsWellFormed, most_bytes, Check, Duplicate, Unbound, RootMissing, UnusedTemp, UndefInside, WitnessCount, rank, kind_of, class_check, FailsAt, IsFirstRuleFault, IsRuleOf, IsRuleFile, IsFault, too_long, of_text, of_rule}
use Rattle.rule_tokens.specs.declared.fault.RuleFaultKind.TheVariants as kinds
use Rattle.rule_reader.specs.Faults.{Redefines}
use Rattle.rule_reader.proofs.Checked.{checked_rule}
use Rattle.rule_reader.proofs.Checking.{Clear, clear_none, clear_more, first_fault, bound_of, rule_of, fault_of_classes}
use Rattle.rule_reader.proofs.Classes.{same_meaning}
use Rattle.rule_reader.proofs.Meant.{some_rule}
use Rattle.rule_reader.proofs.Places.{there}
use Rattle.rule_reader.proofs.FirstLines.{FirstOf, first_duplicate, first_unbound, first_missing_root, first_redefined, first_unused, first_undef_inside, first_witness_count}
use Rattle.rule_reader.proofs.Reading.{AreFirstRules, first_rules_none, first_rules_more, first_rules_pass, all_rules}
use Rattle.rule_reader.proofs.Written.{written_well_formed}

-- ---- a rule as written, with these before it in the file

module _ (earlier : List RawRule) (raw : RawRule) (well : IsWellFormed raw) where
  abbrev HasFault : Type 0
  HasFault = (fault : RuleFault) × IsFirstRuleFault earlier raw fault

  -- the next check fails or passes
  checked_next : (check : Check) → FirstOf (FailsAt earlier raw check) → HasFault ⊎ Clear earlier raw (rank check) → HasFault ⊎ Clear earlier raw (suc (rank check))
  checked_next check found (inl fault) = inl fault
  checked_next check (None, none) (inr clear) = inr (clear_more earlier raw check clear none)
  checked_next check (Some line, first) (inr clear) =
      let fault : RuleFault = record { line = line; kind = kind_of check } in inl (fault, first_fault earlier raw check fault clear refl first)

  registers_checked : HasFault ⊎ Clear earlier raw 7
  registers_checked =
      checked_next WitnessCount (first_witness_count raw well) (checked_next UndefInside (first_undef_inside raw well)
      (checked_next UnusedTemp (first_unused raw well) (checked_next Redefines (first_redefined raw well) (checked_next RootMissing (first_missing_root raw well)
      (checked_next Unbound (first_unbound raw well) (checked_next Duplicate (first_duplicate raw well earlier) (inr (clear_none earlier raw))))))))

  rule_or_fault : RulesHaveClasses → ((rule : Rule) × IsRuleOf earlier raw rule) ⊎ HasFault
  rule_or_fault classes = elim registers_checked [
    | inl fault ↦ inr fault
    | inr clear ↦
        let (rule, means) = some_rule raw well (λ line. clear Unbound line (omega arith)) in
        let (classified, same, keeps, faults) = classes rule in
        elim faults [
          | inl typed ↦ inl (classified, rule_of earlier raw rule classified clear means (record { is_rule = checked_rule raw classified well (bound_of earlier raw clear) (same_meaning raw rule classified (sym same) means); rest = same; classes = keeps; typed = typed }))
          | inr (fault, is) ↦
              let told : RuleFault = record { line = raw.line; kind = kind_of (class_check fault) } in
              inr (told, fault_of_classes earlier raw rule told clear means (record { class_fault = fault; classified = classified; rest = same; classes = keeps; is_fault = is; line = refl; kind = refl }))
        ]
  ]

-- ---- a text

module _ (classes : RulesHaveClasses) (text : List ℕ) (short : length text ≤ most_bytes) (raws : List RawRule) (written : IsWritten text raws) where
  abbrev HasRulesOrFault : Type 0
  HasRulesOrFault = ((rules : List Rule) × IsRuleFile text rules) ⊎ ((fault : RuleFault) × IsFault text fault)

  rules_from : (left place : ℕ) (rules : List Rule) → AreFirstRules raws place rules → place + left ≡ length raws → HasRulesOrFault
  rules_from zero place rules first end = inl (rules, record { raws = raws; written = written; read = all_rules raws place rules (omega arith) first })
  rules_from (suc left) place rules first end =
      let (raw, at) = there raws place (omega arith) in
      elim (rule_or_fault (take place raws) raw (written_well_formed text raws written place raw at) classes) [
        | inl (rule, is) ↦ rules_from left (place + 1) (rules ++ rule ∷ []) (first_rules_more raws place raw rule rules (rules ++ rule ∷ []) first at refl is) (omega arith)
        | inr (fault, is) ↦ inr (fault, of_rule raws place raw short written at (first_rules_pass raws place rules first) is)
      ]

pub some_list_or_fault : TextsHaveOneReadingOrFault → RulesHaveClasses → (text : List ℕ) → ((rules : List Rule) × IsRuleFile text rules) ⊎ ((fault : RuleFault) × IsFault text fault)
some_list_or_fault readings classes text = elim (cases_lt most_bytes (length text)) [
  | inl long ↦ inr (record { line = 1; kind = kinds.TooLong }, too_long long)
  | inr short ↦ elim (readings.some text) [
    | inl (raws, written) ↦ rules_from classes text short raws written (length raws) 0 [] (first_rules_none raws) (omega arith)
    | inr (fault, is) ↦ inr (fault, of_text short is)
  ]
]
