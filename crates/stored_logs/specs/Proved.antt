-- What is found and written where rules are proved.
use Rattle.std.specs.Prelude.{◌≡◌, ◌↔◌, ℕ, List, flat_map, IsTrue, All}
use Rattle.std.specs.List.{AllZip, enumerate_from}
use Rattle.rule_core.specs.declared.rule.Rule.{Rule}
use Rattle.verdict.specs.Findings.{Finding, IsFinding, rows_of, IsAdmitted}
use Rattle.verdict.specs.Table.{IsHonestTable}
use Rattle.stored_logs.specs.declared.proved.Proved.{Proved}
use Rattle.stored_logs.specs.Refutations.{AreRefutationsOf, proofs_text}

-- What is given for a list of rules is made of its findings: the table has their rows and is honest; there is a
-- refutation for each row that is admitted, and the text is that of these proofs; all is admitted exactly where each
-- finding is.
pub record IsProved (rules : List Rule) (widths : List ℕ) (conflicts : ℕ) (proved : Proved) : Type 0 where
  pub findings : List Finding
  -- there is a right finding for each rule, in order
  pub found : AllZip (λ placed finding. IsFinding widths conflicts placed.0 placed.1 finding) (enumerate_from 0 rules) findings
  pub table : proved.table ≡ flat_map rows_of findings
  pub honest : IsHonestTable rules conflicts proved.table
  pub refuted : AreRefutationsOf rules proved.table proved.refutations
  pub text : proved.text.items ≡ proofs_text rules proved.table proved.refutations
  pub all_admitted : IsTrue proved.all_admitted ↔ All IsAdmitted findings
