use Rattle.bindings.proofs.Common.{◌↔◌, List, IsTrue, subst, operands_among, Statement, says, OneNamesAmong}
use Rattle.bindings.proofs.NamedTemporaries.{one_is_named}
use Rattle.bindings.proofs.temporaries.target_names_temporary.Goals as goal

pub returns : goal.returns
returns c =
    says c.name_temporary.result
    (subst (λ (statements : List Statement). IsTrue c.name_temporary.result ↔ OneNamesAmong c.measuring_nodes.result (operands_among statements)) c.as_slice.ensures c.name_temporary.ensures)
    (one_is_named c.args.rule.now.terms c.measuring_nodes.result c.measuring_nodes.ensures (operands_among c.args.rule.now.target))
