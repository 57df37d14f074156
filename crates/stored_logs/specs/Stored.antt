-- Logs of proofs that are stored for their pairs, and what that says of a table of verdicts.
use Rattle.std.specs.Prelude.{◌≡◌, ℕ, List, Some, slice_get, All, Contains}
use Rattle.rule_core.specs.declared.rule.Rule.{Rule}
use Rattle.proof_text.specs.declared.proof.Proof.{Proof}
use Rattle.proof_reader.specs.declared.proof.RuleProof.{RuleProof}
use Rattle.proof_reader.specs.Faults.{IsTextOfGood}
use Rattle.proof_reader.specs.Names.{HasNameAt}
use Rattle.strategy_core.specs.Asked.{Pair}
use Rattle.asked_verdicts.specs.declared.stored.StoredLogs.{StoredLogs}
use Rattle.verdict.specs.Proved.{IsUnrefutedBy}
use Rattle.asked_verdicts.specs.Stored.{log_of}
use Rattle.verdict_core.specs.declared.verdicts.Row.{Row}

-- the pair that a proof is of
abbrev pub pair_of : RuleProof → Pair
pair_of proof = (proof.rule, proof.typing)

-- no two of the proofs are of the same pair
abbrev pub AreOfPairsOnce : List RuleProof → Type 0
AreOfPairsOnce proofs = (i j : ℕ) (a b : RuleProof) → slice_get proofs i ≡ Some a → slice_get proofs j ≡ Some b → pair_of a ≡ pair_of b → i ≡ j

-- the proof's log is stored for its pair
abbrev pub IsLogStored : StoredLogs → RuleProof → Type 0
IsLogStored stored proof = log_of stored (pair_of proof) ≡ Some proof.log

-- the text is of good proofs of these rules, and the log of each is stored for the rule with its name, at its widths
pub record AreStored (rules : List Rule) (text : List ℕ) (stored : StoredLogs) : Type 0 where
  pub proofs : List Proof
  pub text_is : IsTextOfGood rules text proofs
  pub each : (proof : Proof) (place : ℕ) → Contains proofs proof → HasNameAt rules place proof.name → log_of stored (place, proof.widths) ≡ Some proof.log

-- the row is on the rule that the proof names, at the proof's widths
abbrev pub IsOf : List Rule → Proof → Row → Type 0
IsOf rules proof row = HasNameAt rules row.rule proof.name × (row.typing ≡ proof.widths)

-- The text is of good proofs of these rules, and none has a log that refutes the clauses of a `Budget` on its pair.
pub record AreKeptTo (rules : List Rule) (text : List ℕ) (table : List Row) : Type 0 where
  pub proofs : List Proof
  pub text_is : IsTextOfGood rules text proofs
  pub unrefuted : (proof : Proof) (row : Row) → Contains proofs proof → Contains table row → IsOf rules proof row → IsUnrefutedBy proof.log row.verdict
