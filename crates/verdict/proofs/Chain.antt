-- From clauses that stand for the counterexamples of a rule to what their models and their refutations say of the rule.
use Rattle.verdict.proofs.Common.{◌≡◌, ◌↔◌, ℕ, ◌+◌, ◌-◌, ◌≤◌, ◌<◌, Bool, List, length, take, sym, ◌∙◌, subst, arith, inl, inr, Result, Ok, Err, IfOk, take-length, cases_lt, Cnf, Step, Meets, assignment_of, all_clauses, StandsFor, input_values, model_passes, none_passes, UnitsDetermine-from_StandsFor, input_values-assignment_of, StandsFor-same, IsModel, IsHonestLimit, distinct_count_le, Rule, IsRule, IsTyping, IsValid, setting_of, most_gates, Refutes, RulesWithoutCounterexampleReadAreValid, StandsForRule, IsHonestBudget}
use Rattle.blast_rule.specs.Inputs.{input_bits}

module _ (rule : Rule) (typing : List ℕ) (set : Cnf) (stands : StandsForRule rule typing set) where
  -- the values of the inputs read as a counterexample
  abbrev test : List Bool → Type 0
  test values = Refutes rule typing (setting_of rule typing values)

  -- the clauses have the inputs among their variables
  inputs_within : length set.inputs ≤ set.count
  inputs_within =
      elim (cases_lt 0 (length set.inputs)) [
        | inr none ↦ omega arith
        | inl some ↦
            let last = length set.inputs - 1 in
            let at : last < length set.inputs = omega arith in
            omega (arith, stands.test.inputs_first last at, set.input_variables last 0 at)
      ]

  -- a model reads as a counterexample
  pub model_refutes : (model : List Bool) → IsModel set model → Refutes rule typing (setting_of rule typing (take (length set.inputs) model))
  model_refutes model is =
      subst test
      (input_values-assignment_of set test stands.test model (omega (arith, inputs_within, is.each_variable)))
      (model_passes set test stands.test (assignment_of model) is.meets)

  -- where there is no model, the rule is valid
  pub valid_without_model : RulesWithoutCounterexampleReadAreValid → IsRule rule → IsTyping rule typing → ((v : ℕ → Bool) → ¬ (Meets v (all_clauses set))) → IsValid rule typing
  valid_without_model law checked typed none =
      law rule typing checked typed
      (λ read count refutes.
      let lengths : length read ≡ length set.inputs = count ∙ sym stands.inputs in
      let same : input_values set (assignment_of read) ≡ read =
      input_values-assignment_of set test stands.test read (omega arith)
      ∙ subst (λ n. take n read ≡ read) lengths (take-length read) in
      none_passes set test stands.test none (assignment_of read) (subst test (sym same) refutes))

  -- a search that reached its limit was over more than 12 input bits
  pub honest_budget : (limit : ℕ) (log : List Step) → IsHonestLimit set limit log → IsHonestBudget rule typing limit (record { set = set; log = log })
  honest_budget limit log reached =
      record {
        many_bits = elim (cases_lt 12 (input_bits rule typing)) [
          | inl many ↦ many
          | inr few ↦ absurd (reached.not_few (omega (arith, stands.inputs, distinct_count_le set.inputs), UnitsDetermine-from_StandsFor set test stands.test))
        ];
        stands = stands;
        reached = reached;
      }

-- clauses that encode a circuit which is true exactly at the counterexamples stand for the rule
pub stand_for_rule : {E : Type 0} (rule : Rule) (typing : List ℕ) (is_true : List Bool → Type 0) (inputs gates : ℕ) →
    ((values : List Bool) → (is_true values ↔ Refutes rule typing (setting_of rule typing values))) →
    inputs ≡ input_bits rule typing → gates ≤ most_gates rule typing →
    (made : Result Cnf E) → IfOk made (λ set. StandsFor set is_true) → IfOk made (λ set. set.count ≤ inputs + gates + 1) → IfOk made (λ set. length set.inputs ≡ inputs) →
    IfOk made (StandsForRule rule typing)
stand_for_rule rule typing is_true inputs gates bad bits few (Ok set) stands count named =
    record {
      inputs = named ∙ bits;
      test = StandsFor-same set is_true (λ values. Refutes rule typing (setting_of rule typing values)) (λ values lengths. bad values) stands;
      variables = omega (arith, bits, few, count);
    }
stand_for_rule rule typing is_true inputs gates bad bits few (Err e) stands count named = tt
