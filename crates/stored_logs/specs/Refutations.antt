-- The refutations that come with a table of verdicts, and the text of the proofs that they are.
use Rattle.std.specs.Prelude.{◌≡◌, ℕ, Bool, true, false, List, [], Some, slice_get, filter, flat_map}
use Rattle.std.specs.List.{AllZip, zip}
use Rattle.std.specs.Option.{option_map_or}
use Rattle.clauses.specs.ClauseSet.{IsRefutation}
use Rattle.rule_core.specs.declared.rule.Rule.{Rule}
use Rattle.proof_text.specs.declared.proof.Proof.{Proof}
use Rattle.proof_text.specs.Texts.{proof_text}
use Rattle.verdict_core.specs.declared.verdicts.Row.{Row}
use Rattle.verdict_core.specs.declared.verdicts.Verdict.{Verdict}
use Rattle.verdict_core.specs.declared.verdicts.Verdict.TheVariants.{Admitted, Refuted, WitnessFails, Budget}
use Rattle.verdict.specs.Honest.{StandsForRule}
use Rattle.stored_logs.specs.declared.refutation.Refutation.{Refutation}

-- the verdict is `Admitted`
abbrev pub is_admitted : Verdict → Bool
is_admitted Admitted = true
is_admitted (Refuted example) = false
is_admitted (WitnessFails example) = false
is_admitted (Budget tried) = false

-- the rows of a table with the verdict `Admitted`
abbrev pub admitted_in : List Row → List Row
admitted_in table = filter (λ row. is_admitted row.verdict) table

-- the clauses stand for the counterexamples of the rule at the typing, and the log refutes them
abbrev pub Refutes : Rule → List ℕ → Refutation → Type 0
Refutes rule typing refutation = StandsForRule rule typing refutation.set × IsRefutation refutation.set refutation.log

-- the refutation is of the row's rule at the row's typing
abbrev pub IsRefutationOf : List Rule → Row → Refutation → Type 0
IsRefutationOf rules row refutation = (rule : Rule) × (slice_get rules row.rule ≡ Some rule) × Refutes rule row.typing refutation

-- a refutation for each row with the verdict `Admitted`, in order
abbrev pub AreRefutationsOf : List Rule → List Row → List Refutation → Type 0
AreRefutationsOf rules table refutations = AllZip (IsRefutationOf rules) (admitted_in table) refutations

-- the proof of a rule at a typing
abbrev pub proof_of : Rule → List ℕ → Refutation → Proof
proof_of rule typing refutation = record { name = rule.name; widths = typing; log = refutation.log }

-- the text of the proof of a row's rule at its typing
abbrev pub row_proof_text : List Rule → Row → Refutation → List ℕ
row_proof_text rules row refutation = option_map_or (λ rule. proof_text (proof_of rule row.typing refutation)) (slice_get rules row.rule) []

-- the proofs for such rows, one behind the other
abbrev pub proofs_text : List Rule → List Row → List Refutation → List ℕ
proofs_text rules table refutations = flat_map (λ pair. row_proof_text rules pair.0 pair.1) (zip (admitted_in table) refutations)
