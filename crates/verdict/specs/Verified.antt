-- What is found about a list of rules.
use Rattle.std.specs.Prelude.{◌≡◌, ◌↔◌, ℕ, List, flat_map, IsTrue, All}
use Rattle.std.specs.List.{AllZip, enumerate_from, zip}
use Rattle.rule_core.specs.declared.rule.Rule.{Rule}
use Rattle.verdict.specs.declared.verification.Verified.{Verified}
use Rattle.verdict.specs.Table.{IsHonestTable}
use Rattle.verdict.specs.Findings.{Finding, IsFinding, rows_of, finding_text, IsAdmitted}

-- What is given for a list of rules is made of its findings: the table has their rows and is honest, the text is
-- theirs, each rule's in order, and all is admitted exactly where each of them is.
pub record IsVerified (rules : List Rule) (widths : List ℕ) (conflicts : ℕ) (verified : Verified) : Type 0 where
  pub findings : List Finding
  -- there is a right finding for each rule, in order
  pub found : AllZip (λ placed finding. IsFinding widths conflicts placed.0 placed.1 finding) (enumerate_from 0 rules) findings
  pub table : verified.table ≡ flat_map rows_of findings
  pub honest : IsHonestTable rules conflicts verified.table
  pub text : verified.text.items ≡ flat_map (λ pair. finding_text pair.0 pair.1) (zip rules findings)
  pub all_admitted : IsTrue verified.all_admitted ↔ All IsAdmitted findings
