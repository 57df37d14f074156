-- Which texts hold proofs of some rules, and what the first fault of any other text is.
use Rattle.std.specs.Prelude.{◌≡◌, ℕ, ◌+◌, List, Some, slice_get, take, Any}
use Rattle.scan.specs.Lines.{feeds}
use Rattle.rule_core.specs.declared.rule.Rule.{Rule}
use Rattle.rule_core.specs.Typing.{IsTyping}
use Rattle.proof_text.specs.declared.proof.Proof.{Proof}
use Rattle.proof_text.specs.declared.fault.LogFaultKind.{LogFaultKind}
use Rattle.proof_text.specs.declared.fault.LogFaultKind.TheVariants.{UnknownRule, BadTyping, Repeated}
use Rattle.proof_text.specs.Faults.{LogFault, IsTextOf, IsLogFault}
use Rattle.proof_text.specs.Texts.{text_of}
use Rattle.proof_reader.specs.Names.{IsNamed}

-- the rule is one of these, and has the name of the proof
abbrev pub IsRuleOf : List Rule → Proof → Rule → Type 0
IsRuleOf rules proof rule = ((place : ℕ) × (slice_get rules place ≡ Some rule)) × (rule.name ≡ proof.name)

-- one of the proofs is of the same rule at the same widths
abbrev pub IsAmong : List Proof → Proof → Type 0
IsAmong proofs proof = Any (λ other. (other.name ≡ proof.name) × (other.widths ≡ proof.widths)) proofs

-- the proof, behind these in the text, is of a rule at a typing of it, and of no pair that one of these is of
pub record IsGood (rules : List Rule) (earlier : List Proof) (proof : Proof) : Type 0 where
  pub rule : Rule
  pub is : IsRuleOf rules proof rule
  pub typing : IsTyping rule proof.widths
  pub new : ¬ IsAmong earlier proof

-- what is wrong with the proof, behind these in the text: an unknown rule, else widths that are no typing, else a
-- repetition
pub data IsBad (rules : List Rule) (earlier : List Proof) (proof : Proof) : LogFaultKind → Type 0 where
  unknown : ¬ IsNamed rules proof.name → IsBad rules earlier proof UnknownRule
  badly_typed : IsNamed rules proof.name → ((rule : Rule) → IsRuleOf rules proof rule → ¬ IsTyping rule proof.widths) → IsBad rules earlier proof BadTyping
  repeated : (rule : Rule) → IsRuleOf rules proof rule → IsTyping rule proof.widths → IsAmong earlier proof → IsBad rules earlier proof Repeated

-- each proof is good behind those before it
abbrev pub AreGood : List Rule → List Proof → Type 0
AreGood rules proofs = (place : ℕ) (proof : Proof) → slice_get proofs place ≡ Some proof → IsGood rules (take place proofs) proof

-- the text is that of these proofs, all of which are good
abbrev pub IsTextOfGood : List Rule → List ℕ → List Proof → Type 0
IsTextOfGood rules text proofs = IsTextOf text proofs × AreGood rules proofs

-- the fault of the first proof of the text that is not good: it is on that proof's first line
pub record IsAtProof (rules : List Rule) (proofs : List Proof) (fault : LogFault) : Type 0 where
  pub place : ℕ
  pub proof : Proof
  pub is : slice_get proofs place ≡ Some proof
  pub before : AreGood rules (take place proofs)
  pub bad : IsBad rules (take place proofs) proof fault.kind
  pub line : fault.line ≡ feeds (text_of (take place proofs)) + 1

-- the first fault of a text: that of its form, or, where it has the form of proofs, that of the first bad one
pub data IsFault (rules : List Rule) (text : List ℕ) (fault : LogFault) : Type 0 where
  of_text : IsLogFault text fault → IsFault rules text fault
  of_proof : (proofs : List Proof) → IsTextOf text proofs → IsAtProof rules proofs fault → IsFault rules text fault
