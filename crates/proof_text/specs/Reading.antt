-- Reading from left to right: what stands in front of the bytes that are left, or where the reading stops.
use Rattle.std.specs.Prelude.{⊤, ◌≡◌, ◌≢◌, ◌⊎◌, ℕ, ◌^◌, ◌+◌, ◌*◌, ◌-◌, ◌≤◌, ◌<◌, Bool, true, false, min, List, [], ◌∷◌, ◌++◌, length, take, codes}
use Rattle.std.specs.List.{AllByRecursion}
use Rattle.refusal.specs.declared.refusal.Refusal.{Refusal}
use Rattle.refusal.specs.Refusals.{IfRefused}
use Rattle.scan.specs.Lines.{feeds, last_line}
use Rattle.clauses.specs.Literal.{Lit}
use Rattle.clauses.specs.declared.step.Step.{Step}
use Rattle.proof_text.specs.declared.proof.Proof.{Proof}
use Rattle.proof_text.specs.declared.fault.LogFaultKind.TheVariants.{Syntax}
use Rattle.proof_text.specs.Faults.{LogFault, kind_of}
use Rattle.proof_text.specs.Numerals.{numeral}
use Rattle.proof_text.specs.Texts.{literal_text, clause_text, hints_text, step_text, log_text, head_text, proof_text, widths_text}
use Rattle.proof_text.specs.WellFormed.{in_name, IsLiteral, IsNumber, IsStep, IsName, AreWidths, IsWellFormed}

-- which bytes are words of a part
abbrev pub Language : Type 1
Language = List ℕ → Type 0

-- the bytes go on as the rest does: by the same byte, or they end there too
abbrev pub GoesOn : List ℕ → List ℕ → Type 0
GoesOn [] behind = behind ≡ []
GoesOn (b ∷ rest) behind = (more : List ℕ) × (behind ≡ b ∷ more)

-- The bytes passed begin a word, but none that goes on as the rest does, and no word stands in front of what does.
pub record StopsAt (L : Language) (passed rest : List ℕ) : Type 0 where
  pub more : List ℕ
  pub fits : L (passed ++ more)
  pub none : (behind word after : List ℕ) → GoesOn rest behind → L word → passed ++ behind ≡ word ++ after → ⊥

-- a reading of a part stopped in front of the bytes that are left
pub record Stops (L : Language) (text rest : List ℕ) : Type 0 where
  pub passed : List ℕ
  pub goes : text ≡ passed ++ rest
  pub stops : StopsAt L passed rest

abbrev pub StopsIn : {E : Type 0} → Language → Refusal E → List ℕ → List ℕ → Type 0
StopsIn L e text rest = IfRefused e (λ _. Stops L text rest)

-- ---- parts

-- a line behind `proof `, without its line feed
abbrev pub line_text : List ℕ → List ℕ → List ℕ
line_text name widths = (name ++ codes " ") ++ 91 ∷ (widths_text widths ++ codes "]")

-- the byte is not next
abbrev pub NotNext : ℕ → List ℕ → Type 0
NotNext b text = (more : List ℕ) → text ≢ b ∷ more

-- the byte was taken where it was next
abbrev pub Takes : ℕ → Bool → List ℕ → List ℕ → Type 0
Takes b true text rest = text ≡ b ∷ rest
Takes b false text rest = (rest ≡ text) × NotNext b text

abbrev pub Fixed : List ℕ → Language
Fixed wanted word = word ≡ wanted

-- a number as the code holds it
abbrev pub held : ℕ → ℕ
held n = min n (2 ^ 64 - 1)

-- a number that is held as one from the least to the most
abbrev pub IsHeld : ℕ → ℕ → ℕ → Type 0
IsHeld least most n = (least ≤ held n) × (held n ≤ most)

-- a number, and one of two bytes behind it
abbrev pub IsEnd : ℕ → ℕ → ℕ → Type 0
IsEnd one other byte = (byte ≡ one) ⊎ (byte ≡ other)

abbrev pub Numbers : ℕ → ℕ → ℕ → ℕ → Language
Numbers least most one other word = (n : ℕ) × (end : ℕ) × IsHeld least most n × IsEnd one other end × (word ≡ numeral n ++ end ∷ [])

-- what was read of a number, and of the byte behind it
pub record ReadsNumber (least most one other value end : ℕ) (text rest : List ℕ) : Type 0 where
  pub number : ℕ
  pub is_held : IsHeld least most number
  pub value_is : value ≡ held number
  pub ends : IsEnd one other end
  pub goes : text ≡ numeral number ++ end ∷ rest

-- no number from the least on begins the text
abbrev pub BeginsNoNumber : ℕ → List ℕ → Type 0
BeginsNoNumber least text = (digit : ℕ) (more : List ℕ) → least ≤ digit → digit < 10 → text ≢ (48 + digit) ∷ more

-- the number, as it is held, with a digit more, and that there is none up to the most
pub record IsLonger (number byte most longer : ℕ) : Type 0 where
  pub some : 0 < number
  pub digit : (48 ≤ byte) × (byte ≤ 57)
  pub longer_is : longer ≡ held (number * 10 + (byte - 48))
  pub within : longer ≤ most

abbrev pub IsLongest : ℕ → ℕ → ℕ → Type 0
IsLongest number byte most = 48 ≤ byte → byte ≤ 57 → 0 < number → most < held (number * 10 + (byte - 48))

abbrev pub Lists : ℕ → Language
Lists end word = (ns : List ℕ) × AreWidths ns × (word ≡ widths_text ns ++ end ∷ [])

abbrev pub Literals : Language
Literals word = (l : Lit) × IsLiteral l × (word ≡ literal_text l ++ codes " ")

abbrev pub Clauses : Language
Clauses word = (clause : List Lit) × AllByRecursion IsLiteral clause × (word ≡ clause_text clause)

abbrev pub Hints : Language
Hints word = (hints : List ℕ) × AllByRecursion IsNumber hints × (word ≡ hints_text hints)

abbrev pub Steps : Language
Steps word = (s : Step) × IsStep s × (word ≡ step_text s)

-- what was read of the line `log K`, whose number is held so
pub record ReadsCount (count : ℕ) (text rest : List ℕ) : Type 0 where
  pub number : ℕ
  pub count_is : count ≡ held number
  pub goes : text ≡ codes "log " ++ (numeral number ++ 10 ∷ rest)

-- a name ends here: no byte that it may hold is next
abbrev pub EndsName : List ℕ → Type 0
EndsName [] = ⊤
EndsName (b ∷ rest) = (in_name b ≡ false) × ⊤

-- the line behind `proof ` is none of a name and widths
abbrev pub NoLine : List ℕ → Type 0
NoLine line = (name widths : List ℕ) → IsName name → AreWidths widths → line ≢ line_text name widths

-- the byte stands nowhere in the text
abbrev pub Lacks : ℕ → List ℕ → Type 0
Lacks x text = AllByRecursion (λ b. b ≢ x) text

-- the line has no ` [` behind which there is no `[`
abbrev pub NoParts : List ℕ → Type 0
NoParts line = (name back : List ℕ) → Lacks 91 back → line ≢ (name ++ 32 ∷ []) ++ 91 ∷ back

-- the text is not all of widths and `]`
abbrev pub NoWidths : List ℕ → Type 0
NoWidths text = (ws : List ℕ) → AreWidths ws → text ≢ widths_text ws ++ 93 ∷ []

abbrev pub Heads : Language
Heads word = (rule : List ℕ) × (widths : List ℕ) × IsName rule × AreWidths widths × (word ≡ head_text rule widths)

abbrev pub Logs : Language
Logs word = (steps : List Step) × AllByRecursion IsStep steps × (word ≡ log_text steps)

abbrev pub Proofs : Language
Proofs word = (p : Proof) × IsWellFormed p × (word ≡ proof_text p)

-- ---- faults

-- the fault of a text whose reading stopped in front of its last bytes
abbrev pub FaultAt : List ℕ → List ℕ → LogFault → Type 0
FaultAt text [] fault = (fault.line ≡ last_line text) × (fault.kind ≡ Syntax)
FaultAt text (b ∷ rest) fault = (fault.line ≡ feeds (take (length text - length (b ∷ rest)) text) + 1) × (fault.kind ≡ kind_of b)
