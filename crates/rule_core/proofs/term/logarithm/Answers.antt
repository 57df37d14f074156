use Rattle.rule_core.proofs.Common.{◌∙◌, sym}
use Rattle.rule_core.proofs.Exponents.{exponent_fits}
use Rattle.rule_core.proofs.term.logarithm.Goals as goal

pub fitting-requires : goal.fitting-requires
fitting-requires c =
    rw (c.from.ensures, sym c.requires)
    (exponent_fits c.args.a.width c.args.a.number c.in-Some.k (sym c.exponent.ensures.value ∙ c.in-Some.is))
