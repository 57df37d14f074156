-- Which proofs a text may give.
use Rattle.std.specs.Prelude.{◌≡◌, ◌≢◌, ℕ, ◌≤◌, Bool, true, ◌||◌, List, []}
use Rattle.std.specs.List.{AllByRecursion}
use Rattle.scan.specs.Bytes.{is_printable, is_blank}
use Rattle.clauses.specs.Literal.{Lit}
use Rattle.clauses.specs.declared.step.Step.{Step}
use Rattle.proof_text.specs.declared.proof.Proof.{Proof}
use Rattle.proof_text.specs.Limits.{most_variable, most_number}

-- a variable from 1 to the greatest
abbrev pub IsLiteral : Lit → Type 0
IsLiteral l = (1 ≤ l.variable) × (l.variable ≤ most_variable)

-- a hint or a width
abbrev pub IsNumber : ℕ → Type 0
IsNumber n = n ≤ most_number

abbrev pub IsStep : Step → Type 0
IsStep s = AllByRecursion IsLiteral s.clause × AllByRecursion IsNumber s.hints

-- one width or more
abbrev pub AreWidths : List ℕ → Type 0
AreWidths widths = (widths ≢ []) × AllByRecursion IsNumber widths

-- a name may hold it: printable ASCII, a space, a tab or a carriage return
unfoldable pub in_name : ℕ → Bool
in_name b = is_printable b || is_blank b

-- any line of such bytes, as rule files have them
abbrev pub IsName : List ℕ → Type 0
IsName name = AllByRecursion (λ b. in_name b ≡ true) name

abbrev pub IsWellFormed : Proof → Type 0
IsWellFormed p = IsName p.name × AreWidths p.widths × AllByRecursion IsStep p.log

abbrev pub AreWellFormed : List Proof → Type 0
AreWellFormed proofs = AllByRecursion IsWellFormed proofs
