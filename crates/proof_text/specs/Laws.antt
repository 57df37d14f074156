-- What holds of texts of proofs.
use Rattle.std.specs.Prelude.{◌≡◌, ℕ, List}
use Rattle.proof_text.specs.declared.proof.Proof.{Proof}
use Rattle.proof_text.specs.Texts.{text_of}
use Rattle.proof_text.specs.Faults.{LogFault, IsTextOf, IsLogFault}

-- A text has one list of proofs or one fault, never both.
pub record TextsHaveOneReading : Type 0 where
  pub proofs : (text : List ℕ) (one other : List Proof) → IsTextOf text one → IsTextOf text other → one ≡ other
  pub faults : (text : List ℕ) (one other : LogFault) → IsLogFault text one → IsLogFault text other → one ≡ other
  pub apart : (text : List ℕ) (proofs : List Proof) (fault : LogFault) → IsTextOf text proofs → ¬ IsLogFault text fault

-- Within the limit of bytes, what is written of well-formed proofs is read as them.
pub record WrittenIsRead (written : List Proof) : Type 0 where
  pub read : IsTextOf (text_of written) written
  pub only : (proofs : List Proof) → IsTextOf (text_of written) proofs → proofs ≡ written
  pub faultless : (fault : LogFault) → ¬ IsLogFault (text_of written) fault
