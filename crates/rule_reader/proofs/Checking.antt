-- From check to check: what is known of a rule that has passed some, and what its first fault is.
use Rattle.rule_reader.proofs.Common.{◌≡◌, inl, inr, ℕ, suc, ◌<◌, List, [], ◌∷◌, Some, refl, sym, subst, arith, slice_get, Bool, true, false, false≢true, IsRule, RuleFault, RuleError, Refused, IfRefused, IsWellFormed, MarksRule, slice_get_within, RawRule, RawStatement, Rule, ClassFault, IsClassified, HasTooManyClasses, HasNoTyping, HasOpenClass, Means, ClassesAt, DuplicateAt, UnboundAt, RootMissingAt, RedefinesAt, UnusedTempAt, UndefInsideAt, WitnessCountAt, Check, Duplicate, Unbound, RootMissing, UnusedTemp, UndefInside, WitnessCount, ManyClasses, NoType, OpenType, rank, kind_of, class_check, FailsAt, IsFirstLine, IsFirstRuleFault, IsRuleOf, NamesAreThere, IsClassifiedAs, IsClassFault}
use Rattle.rule_typing.specs.declared.classes.ClassFault.TheVariants as class_faults
use Rattle.rule_typing.specs.Faults.{IsFault as IsFaultOfClasses}
use Rattle.rule_reader.specs.Faults.{Redefines}
use Rattle.rule_reader.proofs.Checked.{IsBound, checked_rule}
use Rattle.rule_reader.proofs.There.{names_there}
use Rattle.rule_reader.proofs.Classes.{same_meaning}
use Rattle.rule_reader.proofs.Once.{one_rule}
use Rattle.rule_reader.proofs.Places.{order, same_at}

-- the checks, by their ranks
abbrev checks : List Check
checks = Duplicate ∷ Unbound ∷ RootMissing ∷ Redefines ∷ UnusedTemp ∷ UndefInside ∷ WitnessCount ∷ ManyClasses ∷ NoType ∷ OpenType ∷ []

at_rank : (c : Check) → slice_get checks (rank c) ≡ Some c
at_rank Duplicate = refl
at_rank Unbound = refl
at_rank RootMissing = refl
at_rank Redefines = refl
at_rank UnusedTemp = refl
at_rank UndefInside = refl
at_rank WitnessCount = refl
at_rank ManyClasses = refl
at_rank NoType = refl
at_rank OpenType = refl

pub same_check : (c d : Check) → rank c ≡ rank d → c ≡ d
same_check c d e = same_at checks (rank d) c d (subst (λ n. slice_get checks n ≡ Some c) e (at_rank c)) (at_rank d)

few_checks : (c : Check) → rank c < 10
few_checks c = slice_get_within checks (rank c) c (at_rank c)

module _ (earlier : List RawRule) (raw : RawRule) where
  -- the first n checks pass
  abbrev pub Clear : ℕ → Type 0
  Clear n = (check : Check) (line : ℕ) → rank check < n → ¬ FailsAt earlier raw check line

  pub clear_none : Clear 0
  clear_none check line lt = absurd (omega arith)

  pub clear_more : (c : Check) → Clear (rank c) → ((line : ℕ) → ¬ FailsAt earlier raw c line) → Clear (suc (rank c))
  clear_more c clear none check line lt fails = elim (order (rank check) (rank c)) [
    | inl before ↦ clear check line before fails
    | inr (inl e) ↦ none line (subst (λ d. FailsAt earlier raw d line) (same_check check c e) fails)
    | inr (inr behind) ↦ absurd (omega arith)
  ]

  pub first_fault : (c : Check) (fault : RuleFault) → Clear (rank c) → fault.kind ≡ kind_of c → IsFirstLine (FailsAt earlier raw c) fault.line → IsFirstRuleFault earlier raw fault
  first_fault c fault clear kind line = record { check = c; kind = kind; line = line; first = clear }

  pub clear_1 : ((line : ℕ) → ¬ DuplicateAt earlier raw line) → Clear 1
  clear_1 none = clear_more Duplicate clear_none none

  pub clear_2 : Clear 1 → ((line : ℕ) → ¬ UnboundAt raw line) → Clear 2
  clear_2 clear none = clear_more Unbound clear none

  pub clear_3 : Clear 2 → ((line : ℕ) → ¬ RootMissingAt raw line) → Clear 3
  clear_3 clear none = clear_more RootMissing clear none

  pub clear_4 : Clear 3 → ((line : ℕ) → ¬ RedefinesAt raw line) → Clear 4
  clear_4 clear none = clear_more Redefines clear none

  pub clear_5 : Clear 4 → (source : List RawStatement) → source ≡ raw.source → ((line : ℕ) → ¬ UnusedTempAt source line) → Clear 5
  clear_5 clear source is none = clear_more UnusedTemp clear (subst (λ ss. (line : ℕ) → ¬ UnusedTempAt ss line) is none)

  pub clear_6 : Clear 5 → ((line : ℕ) → ¬ UndefInsideAt raw line) → Clear 6
  clear_6 clear none = clear_more UndefInside clear none

  pub clear_7 : Clear 6 → ((line : ℕ) → ¬ WitnessCountAt raw line) → Clear 7
  clear_7 clear none = clear_more WitnessCount clear none

  -- where a check fails behind those that pass, it gives the first fault
  pub fault_at : (check : Check) (line : ℕ) → Clear (rank check) → IsFirstLine (FailsAt earlier raw check) line → IsFirstRuleFault earlier raw (record { line = line; kind = kind_of check })
  fault_at check line clear first = first_fault check (record { line = line; kind = kind_of check }) clear refl first

  -- the rule has passed all checks of registers
  pub bound_of : Clear 7 → IsBound raw
  bound_of clear =
      record {
        plain = record {
          source_once = λ line h. clear Duplicate line (omega arith) (inr (inl h));
          target_once = λ line h. clear Duplicate line (omega arith) (inr (inr h));
          stays = λ line h. clear Redefines line (omega arith) h;
        };
        there = names_there raw (λ line h. clear Unbound line (omega arith) h);
        root_there = λ line h. clear RootMissing line (omega arith) h;
        all_used = λ line h. clear UnusedTemp line (omega arith) h;
        undefs_right = λ line h. clear UndefInside line (omega arith) h;
        enough = λ line h. clear WitnessCount line (omega arith) h;
      }

  -- where the one rule with its classes doesn't have the fault, no rule that is meant does
  no_class_fault : (rule : Rule) (HasFault : Rule → Type 0) (line : ℕ) → IsBound raw → Means raw rule → IsClassified rule → ¬ HasFault rule → ¬ ClassesAt raw HasFault line
  no_class_fault rule HasFault line bound means classes not ((other, means', classes', fault), is) = not (subst HasFault (one_rule raw other rule bound means' classes' means classes) fault)

  pub rule_of : (rule classified : Rule) → Clear 7 → Means raw rule → IsClassifiedAs rule classified → IsRuleOf earlier raw classified
  rule_of rule classified clear means result =
      let bound = bound_of clear in
      let meant : Means raw classified = same_meaning raw rule classified (sym result.rest) means in
      let clear_8 = clear_more ManyClasses clear (λ line. no_class_fault classified HasTooManyClasses line bound meant result.classes result.typed.few) in
      let clear_9 = clear_more NoType clear_8 (λ line. no_class_fault classified HasNoTyping line bound meant result.classes result.typed.typed) in
      let clear_10 = clear_more OpenType clear_9 (λ line. no_class_fault classified HasOpenClass line bound meant result.classes result.typed.closed) in
      record { passes = λ check line fails. clear_10 check line (few_checks check) fails; means = meant; classes = result.classes }

  -- the line of a fault of classes
  class_line : (rule : Rule) (HasFault : Rule → Type 0) (line : ℕ) → Means raw rule → IsClassified rule → HasFault rule → line ≡ raw.line → IsFirstLine (ClassesAt raw HasFault) line
  class_line rule HasFault line means classes has is = (((rule, means, classes, has), sym is), λ other h. omega (arith, h.1))

  class_fault : (classified : Rule) (fault : RuleFault) → Clear 7 → Means raw classified → IsClassified classified → fault.line ≡ raw.line → (f : ClassFault) → IsFaultOfClasses classified f → fault.kind ≡ kind_of (class_check f) → IsFirstRuleFault earlier raw fault
  class_fault classified fault clear meant classes line class_faults.TooMany is kind =
      first_fault ManyClasses fault clear kind (class_line classified HasTooManyClasses fault.line meant classes is line)
  class_fault classified fault clear meant classes line class_faults.NoType is kind =
      let bound = bound_of clear in
      let clear_8 = clear_more ManyClasses clear (λ l. no_class_fault classified HasTooManyClasses l bound meant classes is.0) in
      first_fault NoType fault clear_8 kind (class_line classified HasNoTyping fault.line meant classes is.1 line)
  class_fault classified fault clear meant classes line class_faults.OpenType is kind =
      let bound = bound_of clear in
      let clear_8 = clear_more ManyClasses clear (λ l. no_class_fault classified HasTooManyClasses l bound meant classes is.0) in
      let clear_9 = clear_more NoType clear_8 (λ l. no_class_fault classified HasNoTyping l bound meant classes is.1) in
      first_fault OpenType fault clear_9 kind (class_line classified HasOpenClass fault.line meant classes is.2 line)

  pub fault_of_classes : (rule : Rule) (fault : RuleFault) → Clear 7 → Means raw rule → IsClassFault rule raw.line fault → IsFirstRuleFault earlier raw fault
  fault_of_classes rule fault clear means found =
      class_fault found.classified fault clear (same_meaning raw rule found.classified (sym found.rest) means) found.classes found.line found.class_fault found.is_fault found.kind

-- some list of earlier rules for which the flag of a repeated name is right
pub some_earlier : (is_repeated : Bool) (raw : RawRule) → (earlier : List RawRule) × MarksRule is_repeated earlier raw
some_earlier true raw = (raw ∷ [], (λ _. (0, raw, refl, refl), λ _. refl))
some_earlier false raw = ([], (λ t. absurd (false≢true t), λ (k, other, at, is). absurd (let lt : k < 0 = slice_get_within [] k other at in omega arith)))

-- what holds for every list of earlier rules for which the flag is right
module _ (raw : RawRule) (is_repeated : Bool) where
  abbrev pub ForEarlier : (List RawRule → Type 0) → Type 0
  ForEarlier P = (earlier : List RawRule) → MarksRule is_repeated earlier raw → P earlier

  pub checked_so_far : (rule : Rule) → IsWellFormed raw → ForEarlier (λ earlier. Clear earlier raw 7) → Means raw rule → IsRule rule
  checked_so_far rule well clear means = let (earlier, marks) = some_earlier is_repeated raw in checked_rule raw rule well (bound_of earlier raw (clear earlier marks)) means

  pub there_so_far : ForEarlier (λ earlier. Clear earlier raw 7) → NamesAreThere raw
  there_so_far clear = let (earlier, marks) = some_earlier is_repeated raw in (bound_of earlier raw (clear earlier marks)).there

  pub classified_ok : (rule classified : Rule) → ForEarlier (λ earlier. Clear earlier raw 7) → Means raw rule → IsClassifiedAs rule classified → ForEarlier (λ earlier. IsRuleOf earlier raw classified)
  classified_ok rule classified clear means is earlier marks = rule_of earlier raw rule classified (clear earlier marks) means is

  pub classified_refused : (rule : Rule) (fault : RuleFault) → ForEarlier (λ earlier. Clear earlier raw 7) → Means raw rule → IsClassFault rule raw.line fault → ForEarlier (λ earlier. IsFirstRuleFault earlier raw fault)
  classified_refused rule fault clear means is earlier marks = fault_of_classes earlier raw rule fault (clear earlier marks) means is

  -- the refusal where a name is repeated
  pub refused_duplicate : (line : ℕ) (e : RuleError) → e ≡ Refused (record { line = line; kind = kind_of Duplicate }) → ForEarlier (λ earlier. IsFirstLine (DuplicateAt earlier raw) line)
      → IfRefused e (λ fault. ForEarlier (λ earlier. IsFirstRuleFault earlier raw fault))
  refused_duplicate line e is first =
      subst (λ x. IfRefused x (λ fault. ForEarlier (λ earlier. IsFirstRuleFault earlier raw fault))) (sym is)
      (λ earlier marks. fault_at earlier raw Duplicate line (clear_none earlier raw) (first earlier marks))
