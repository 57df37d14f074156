-- Rule by rule through a text.
use Rattle.rule_reader.proofs.Common.{◌≡◌, inl, inr, ℕ, ◌+◌, ◌<◌, ◌≤◌, Bool, List, [], ◌∷◌, ◌++◌, length, length-append, take, Some, refl, sym, ap, subst, ◌∙◌, arith, get_or, slice_get, map, All, slice_get_within, slice_get-get_or, RawRule, IsWritten, Rule, IsRule, AreDistinct, IsClassified, HasNoFault, IsTextFault, IfRefused, RuleError, Refused, NoMemory, most_bytes, MarksRule, MarksRepeated, IsWellFormed, ManyClasses, NoType, OpenType, Duplicate, Passes, IsRuleOf, IsFirstRuleFault, AreRulesOf, IsFault, of_text, of_rule}
use Rattle.rule_reader.proofs.Places.{order, same_at, at_append, take_at, at_map, there}
use Rattle.rule_reader.proofs.Checked.{checked_rule}
use Rattle.rule_reader.proofs.Checking.{bound_of}

-- the rules are those of the first `place` rules as written
pub record AreFirstRules (raws : List RawRule) (place : ℕ) (rules : List Rule) : Type 0 where
  pub count : length rules ≡ place
  pub each : (k : ℕ) (raw : RawRule) (rule : Rule) → slice_get raws k ≡ Some raw → slice_get rules k ≡ Some rule → IsRuleOf (take k raws) raw rule

pub first_rules_none : (raws : List RawRule) → AreFirstRules raws 0 []
first_rules_none raws = record { count = refl; each = λ k raw rule at at'. absurd (let lt : k < 0 = slice_get_within [] k rule at' in omega arith) }

pub first_rules_more : (raws : List RawRule) (place : ℕ) (raw : RawRule) (rule : Rule) (rules rules' : List Rule) → AreFirstRules raws place rules → slice_get raws place ≡ Some raw → rules' ≡ rules ++ rule ∷ [] → IsRuleOf (take place raws) raw rule → AreFirstRules raws (place + 1) rules'
first_rules_more raws place raw rule rules rules' first here more own =
    record {
      count = ap length more ∙ length-append rules (rule ∷ []) ∙ omega (arith, first.count);
      each = λ k raw' rule' at at'. elim (at_append rules (rule ∷ []) k rule' (subst (λ l. slice_get l k ≡ Some rule') more at')) [
        | inl old ↦ first.each k raw' rule' at old
        | inr (j, e, last) ↦
            let one : j < 1 = slice_get_within (rule ∷ []) j rule' last in
            let first_place : j ≡ 0 = omega arith in
            let k_is : k ≡ place = omega (arith, first.count) in
            let same_raw : raw ≡ raw' = same_at raws place raw raw' here (subst (λ n. slice_get raws n ≡ Some raw') k_is at) in
            let same_rule : rule ≡ rule' = same_at (rule ∷ []) 0 rule rule' refl (subst (λ n. slice_get (rule ∷ []) n ≡ Some rule') first_place last) in
            subst (λ r. IsRuleOf (take k raws) raw' r) same_rule (subst (λ r. IsRuleOf (take k raws) r rule) same_raw (subst (λ n. IsRuleOf (take n raws) raw rule) (sym k_is) own))
      ];
    }

-- at the end they are those of all
pub all_rules : (raws : List RawRule) (place : ℕ) (rules : List Rule) → place ≡ length raws → AreFirstRules raws place rules → AreRulesOf raws rules
all_rules raws place rules end first = record { count = first.count ∙ end; each = first.each }

-- the rules as written before this place have no fault
pub first_rules_pass : (raws : List RawRule) (place : ℕ) (rules : List Rule) → AreFirstRules raws place rules → (j : ℕ) (raw : RawRule) → j < place → slice_get raws j ≡ Some raw → Passes (take j raws) raw
first_rules_pass raws place rules first j raw lt at =
    let (rule, at') = there rules j (omega (arith, first.count)) in
    (first.each j raw rule at at').passes

-- what holds of each rule that is read
module _ (raws : List RawRule) (rules : List Rule) (well : (k : ℕ) (raw : RawRule) → slice_get raws k ≡ Some raw → IsWellFormed raw) (read : AreRulesOf raws rules) where
  each_rule : (P : Rule → Type 0) → ((earlier : List RawRule) (raw : RawRule) (rule : Rule) → IsWellFormed raw → IsRuleOf earlier raw rule → P rule) → All P rules
  each_rule P holds = λ k d within.
      let at : slice_get rules k ≡ Some (get_or rules k d) = slice_get-get_or rules k d within in
      let (raw, at') = there raws k (omega (arith, read.count)) in
      holds (take k raws) raw (get_or rules k d) (well k raw at') (read.each k raw (get_or rules k d) at' at)

  pub all_are_rules : All IsRule rules
  all_are_rules = each_rule IsRule (λ earlier raw rule well is. checked_rule raw rule well (bound_of earlier raw (λ check line lt. is.passes check line)) is.means)

  pub all_are_classified : All IsClassified rules
  all_are_classified = each_rule IsClassified (λ earlier raw rule well is. is.classes)

  no_fault : (earlier : List RawRule) (raw : RawRule) (rule : Rule) → IsRuleOf earlier raw rule → HasNoFault rule
  no_fault earlier raw rule is =
      record {
        few = λ h. is.passes ManyClasses raw.line ((rule, is.means, is.classes, h), refl);
        typed = λ h. is.passes NoType raw.line ((rule, is.means, is.classes, h), refl);
        closed = λ h. is.passes OpenType raw.line ((rule, is.means, is.classes, h), refl);
      }

  pub all_have_no_fault : All HasNoFault rules
  all_have_no_fault = each_rule HasNoFault (λ earlier raw rule well is. no_fault earlier raw rule is)

  again : (j k : ℕ) (name : List ℕ) → j < k → slice_get (map (λ rule. rule.name) rules) j ≡ Some name → slice_get (map (λ rule. rule.name) rules) k ≡ Some name → ⊥
  again j k name lt first second =
      let (r, at, is) = at_map (λ (rule : Rule). rule.name) rules j name first in
      let (s, at', is') = at_map (λ (rule : Rule). rule.name) rules k name second in
      let within : k < length rules = slice_get_within rules k s at' in
      let (v, there_j) = there raws j (omega (arith, read.count)) in
      let (w, there_k) = there raws k (omega (arith, read.count)) in
      let own = read.each j v r there_j at in
      let other = read.each k w s there_k at' in
      other.passes Duplicate w.line (inl ((j, v, take_at k raws j v lt there_j, sym own.means.name ∙ is ∙ sym is' ∙ other.means.name), refl))

  pub names_are_distinct : AreDistinct (map (λ rule. rule.name) rules)
  names_are_distinct j k name p q = elim (order j k) [ inl lt ↦ absurd (again j k name lt p q) | inr (inl e) ↦ e | inr (inr gt) ↦ absurd (again k j name gt q p) ]

-- a fault of the text's tokens, and a fault of one of its rules, is the text's
pub text_fault : (text : List ℕ) (e : RuleError) → length text ≤ most_bytes → IfRefused e (IsTextFault text) → IfRefused e (IsFault text)
text_fault text (Refused fault) short is = of_text short is
text_fault text NoMemory short is = tt

pub rule_fault : (text : List ℕ) (raws : List RawRule) (place : ℕ) (raw : RawRule) (rules : List Rule) (mark : Bool) (e : RuleError) → length text ≤ most_bytes → IsWritten text raws → AreFirstRules raws place rules → slice_get raws place ≡ Some raw
    → MarksRule mark (take place raws) raw → IfRefused e (λ fault. (earlier : List RawRule) → MarksRule mark earlier raw → IsFirstRuleFault earlier raw fault) → IfRefused e (IsFault text)
rule_fault text raws place raw rules mark (Refused fault) short written first at marks is = of_rule raws place raw short written at (first_rules_pass raws place rules first) (is (take place raws) marks)
rule_fault text raws place raw rules mark NoMemory short written first at marks is = tt

-- the flag of a repeated name for the rule at this place
pub mark_at : (raws seen : List RawRule) (marks : List Bool) (place : ℕ) (raw : RawRule) (mark : Bool) → seen ≡ raws → MarksRepeated seen marks → slice_get raws place ≡ Some raw → slice_get marks place ≡ Some mark → MarksRule mark (take place raws) raw
mark_at raws seen marks place raw mark is repeated at at' = (subst (λ l. MarksRepeated l marks) is repeated).each place raw mark at at'
