-- What is read of a text of proofs.
use Rattle.std.specs.Prelude.{◌≡◌, ℕ, ◌+◌, Bool, true, false, ◌&&◌, nat_eq, List, ◌∷◌, ◌++◌, [], Vec, Some, slice_get}
use Rattle.std.specs.List.{AllZip, list_any}
use Rattle.std.specs.Str.{bytes_eq}
use Rattle.std.specs.Global.{Global}
use Rattle.scan.specs.Lines.{feeds}
use Rattle.rule_core.specs.declared.rule.Rule.{Rule}
use Rattle.rule_core.specs.Typing.{IsTyping}
use Rattle.proof_text.specs.declared.proof.Proof.{Proof}
use Rattle.proof_text.specs.Faults.{LogFault}
use Rattle.proof_text.specs.Texts.{text_of}
use Rattle.proof_reader.specs.declared.proof.RuleProof.{RuleProof}
use Rattle.proof_reader.specs.Names.{HasNameAt}
use Rattle.proof_reader.specs.Faults.{IsTextOfGood, IsGood, AreGood, IsBad}

-- what is read of a proof: the place of the rule that has its name, its widths, which are a typing of that rule, and
-- its log
pub record IsProofOf (rules : List Rule) (proof : Proof) (read : RuleProof) : Type 0 where
  pub rule : Rule
  pub is : slice_get rules read.rule ≡ Some rule
  pub named : rule.name ≡ proof.name
  pub typing : read.typing ≡ proof.widths
  pub typed : IsTyping rule read.typing
  pub log : read.log ≡ proof.log

-- the rule at the place has the name of the proof, and the typing is the proof's widths, and one of that rule
pub record IsTypedAt (rules : List Rule) (proof : Proof) (place : ℕ) (typing : List ℕ) : Type 0 where
  pub rule : Rule
  pub is : slice_get rules place ≡ Some rule
  pub named : rule.name ≡ proof.name
  pub widths : typing ≡ proof.widths
  pub typed : IsTyping rule typing

-- what is read of a text: each of its proofs, in order
pub record IsReadOf (rules : List Rule) (text : List ℕ) (read : List RuleProof) : Type 0 where
  pub proofs : List Proof
  pub text_is : IsTextOfGood rules text proofs
  pub each : AllZip (IsProofOf rules) proofs read

-- the place of the rule that a proof is of, and the proof's widths
abbrev pub Key : Type 0
Key = ℕ × Vec ℕ Global

-- whether two keys are of one rule and of the same widths
abbrev pub is_same_key : Key → Key → Bool
is_same_key x y = nat_eq x.0 y.0 && bytes_eq x.1.items y.1.items

-- whether one of the keys is the same as this
abbrev pub has_key : List Key → Key → Bool
has_key keys key = list_any (is_same_key key) keys

-- no old key is of this rule and these widths, and such a key is appended
pub record AddsKey (old : List Key) (place : ℕ) (widths : List ℕ) (new : List Key) : Type 0 where
  pub key : Key
  pub rule_is : key.0 ≡ place
  pub widths_are : key.1.items ≡ widths
  pub lacked : has_key old key ≡ false
  pub added : new ≡ old ++ key ∷ []

-- one of the keys is of the rule at this place and of these widths
pub record HasKey (keys : List Key) (place : ℕ) (widths : List ℕ) : Type 0 where
  pub key : Key
  pub rule_is : key.0 ≡ place
  pub widths_are : key.1.items ≡ widths
  pub had : has_key keys key ≡ true

-- these are the keys of the proofs, in order
abbrev pub AreKeysOf : List Rule → List Proof → List Key → Type 0
AreKeysOf rules proofs keys = AllZip (λ proof key. HasNameAt rules key.0 proof.name × (key.1.items ≡ proof.widths)) proofs keys

-- all these proofs are good; these are their keys, what is read of them, and the number of the line behind them
pub record AreTaken (rules : List Rule) (proofs : List Proof) (keys : List Key) (read : List RuleProof) (line : ℕ) : Type 0 where
  pub good : AreGood rules proofs
  pub each : AllZip (IsProofOf rules) proofs read
  pub keys_are : AreKeysOf rules proofs keys
  pub line_is : line ≡ feeds (text_of proofs) + 1

-- the proof is good behind the earlier ones; this is what is read of it, and these are the keys with its own
pub record TakesProof (rules : List Rule) (earlier : List Proof) (proof : Proof) (read : RuleProof) (keys : List Key) : Type 0 where
  pub good : IsGood rules earlier proof
  pub is : IsProofOf rules proof read
  pub keys_are : AreKeysOf rules (earlier ++ proof ∷ []) keys

-- the proof is not good behind the earlier ones, and this is the kind of its fault
pub record RefusesProof (rules : List Rule) (earlier : List Proof) (proof : Proof) (line : ℕ) (fault : LogFault) : Type 0 where
  pub bad : IsBad rules earlier proof fault.kind
  pub line_is : fault.line ≡ line

-- what is read is of one of the rules, at one of its typings
abbrev pub IsTypedIn : List Rule → RuleProof → Type 0
IsTypedIn rules read = (rule : Rule) × (slice_get rules read.rule ≡ Some rule) × IsTyping rule read.typing
