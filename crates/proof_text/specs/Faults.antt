-- Why a text is no text of proofs.
use Rattle.std.specs.Prelude.{◌≡◌, ◌≢◌, ℕ, ◌+◌, ◌≤◌, ◌<◌, if◌then◌else◌, List, [], ◌∷◌, ◌++◌, length}
use Rattle.refusal.specs.declared.fault.Fault.{Fault}
use Rattle.scan.specs.Bytes.{is_bad}
use Rattle.scan.specs.Lines.{feeds, last_line}
use Rattle.proof_text.specs.declared.proof.Proof.{Proof}
use Rattle.proof_text.specs.declared.fault.LogFaultKind.{LogFaultKind}
use Rattle.proof_text.specs.declared.fault.LogFaultKind.TheVariants.{TooLong, BadByte, Syntax}
use Rattle.proof_text.specs.Limits.{most_bytes}
use Rattle.proof_text.specs.Texts.{text_of}
use Rattle.proof_text.specs.WellFormed.{AreWellFormed}

-- the first fault of a text
abbrev pub LogFault : Type 0
LogFault = Fault LogFaultKind

-- the text is within the limit and is the text of these proofs
abbrev pub IsTextOf : List ℕ → List Proof → Type 0
IsTextOf text proofs = (length text ≤ most_bytes) × AreWellFormed proofs × (text ≡ text_of proofs)

-- some bytes behind these make them a text of proofs, of any length
abbrev pub Fits : List ℕ → Type 0
Fits front = (more : List ℕ) × (proofs : List Proof) × AreWellFormed proofs × (front ++ more ≡ text_of proofs)

-- what a byte is where it does not fit: one that may stand nowhere is bad
abbrev pub kind_of : ℕ → LogFaultKind
kind_of b = if is_bad b then BadByte else Syntax

-- the first byte with which the bytes so far do not fit is on the fault's line
pub record IsAtByte (text : List ℕ) (fault : LogFault) : Type 0 where
  pub front : List ℕ
  pub byte : ℕ
  pub behind : List ℕ
  pub stands : text ≡ front ++ byte ∷ behind
  pub fits : Fits front
  pub departs : ¬ Fits (front ++ byte ∷ [])
  pub line : fault.line ≡ feeds front + 1
  pub kind : fault.kind ≡ kind_of byte

-- all bytes fit, but the text ends too early: the fault is on its last line
pub record IsAtEnd (text : List ℕ) (fault : LogFault) : Type 0 where
  pub fits : Fits text
  pub not_whole : (proofs : List Proof) → AreWellFormed proofs → text ≢ text_of proofs
  pub line : fault.line ≡ last_line text
  pub kind : fault.kind ≡ Syntax

-- the fault of a text
pub data IsLogFault (text : List ℕ) (fault : LogFault) : Type 0 where
  too_long : most_bytes < length text → fault ≡ record { line = 1; kind = TooLong } → IsLogFault text fault
  at_byte : length text ≤ most_bytes → IsAtByte text fault → IsLogFault text fault
  at_end : length text ≤ most_bytes → IsAtEnd text fault → IsLogFault text fault
