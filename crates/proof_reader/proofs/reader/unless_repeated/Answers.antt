use Rattle.proof_reader.proofs.Common.{◌∙◌, err_from_is_err_and}
use Rattle.proof_reader.proofs.Refusing.{IfRefused-weaker}
use Rattle.proof_reader.proofs.reader.unless_repeated.Goals as goal

pub returns-clause-added : goal.returns-clause-added
returns-clause-added c =
    let adds = c.in_ok-add_key.ensures.added in
    record { key = adds.key; rule_is = adds.rule_is; widths_are = adds.widths_are ∙ c.into_vec-widths.ensures; lacked = adds.lacked; added = adds.added }

pub returns-in_err-add_key-clause-refused : goal.returns-in_err-add_key-clause-refused
returns-in_err-add_key-clause-refused c =
    let p = err_from_is_err_and c.from_residual.result c.from_residual.ensures.1 in
    rw (p.1, p.2) (IfRefused-weaker c.in_err-add_key.field-0.0 _ _
    (λ fault has. (has.0, record { key = has.1.key; rule_is = has.1.rule_is; widths_are = has.1.widths_are ∙ c.into_vec-widths.ensures; had = has.1.had }))
    c.in_err-add_key.ensures.refused)
