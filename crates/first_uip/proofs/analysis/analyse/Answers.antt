use Rattle.first_uip.proofs.Common.{◌+◌, length, ap, ◌∙◌, length-replicate, Unseen, role_of}
use Rattle.first_uip.proofs.RoleLemmas.{unseen_everywhere}
use Rattle.first_uip.proofs.analysis.analyse.Goals as goal

pub analyse_in-requires-clause-size : goal.analyse_in-requires-clause-size
analyse_in-requires-clause-size c =
    ap length c.deref_mut-3.ensures.value ∙ ap length c.in_ok-roles.ensures ∙ length-replicate (c.args.cnf.now.count + 1) Unseen

pub analyse_in-requires-clause-unseen : goal.analyse_in-requires-clause-unseen
analyse_in-requires-clause-unseen c =
    λ n.
    ap (λ rs. role_of rs n) (c.deref_mut-3.ensures.value ∙ c.in_ok-roles.ensures) ∙ unseen_everywhere (c.args.cnf.now.count + 1) n
