use Rattle.rule_terms.proofs.Endings.{terms_are_read}
use Rattle.rule_terms.proofs.laws.terms_are_read_as_they_are_spelled.Goals as goal

pub returns : goal.returns
returns c = terms_are_read
