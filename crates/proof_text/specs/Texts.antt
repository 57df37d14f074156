-- The text of proofs.
use Rattle.std.specs.Prelude.{ℕ, List, [], ◌++◌, length, map, flat_map, if◌then◌else◌, codes}
use Rattle.std.specs.List.{join_with_byte}
use Rattle.clauses.specs.Literal.{Lit}
use Rattle.clauses.specs.declared.step.Step.{Step}
use Rattle.proof_text.specs.declared.proof.Proof.{Proof}
use Rattle.proof_text.specs.Numerals.{numeral}

-- a literal: its variable, behind a `-` where it is negated
abbrev pub literal_text : Lit → List ℕ
literal_text l = (if l.negated then codes "-" else []) ++ numeral l.variable

-- a clause: a space behind each literal, and then `:`
abbrev pub clause_text : List Lit → List ℕ
clause_text clause = flat_map (λ l. literal_text l ++ codes " ") clause ++ codes ":"

-- the line of a step: its clause, and each hint behind a space
abbrev pub hints_text : List ℕ → List ℕ
hints_text hints = flat_map (λ h. codes " " ++ numeral h) hints ++ codes "\n"

abbrev pub step_text : Step → List ℕ
step_text s = clause_text s.clause ++ hints_text s.hints

-- how many steps there are, and then their lines
abbrev pub log_text : List Step → List ℕ
log_text steps = codes "log " ++ numeral (length steps) ++ codes "\n" ++ flat_map step_text steps

-- widths, joined by spaces
abbrev pub widths_text : List ℕ → List ℕ
widths_text widths = join_with_byte 32 (map numeral widths)

-- the line `proof NAME [w ..]`
abbrev pub head_text : List ℕ → List ℕ → List ℕ
head_text rule widths = codes "proof " ++ rule ++ codes " [" ++ widths_text widths ++ codes "]\n"

abbrev pub proof_text : Proof → List ℕ
proof_text p = head_text p.name p.widths ++ log_text p.log

-- one proof behind the other
abbrev pub text_of : List Proof → List ℕ
text_of proofs = flat_map proof_text proofs
