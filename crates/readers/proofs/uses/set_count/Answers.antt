use Rattle.readers.proofs.Common.{refl, sym, subst, Register, HasNumber, IsSetTo}
use Rattle.readers.proofs.Tables.{parameter_set, result_set, row_within}
use Rattle.readers.proofs.uses.set_count.Goals as goal

pub set_in-requires : goal.set_in-requires
set_in-requires c = subst (λ (r : Register). HasNumber c.args.uses.now r) c.in-Parameter.is c.requires

pub set_at-requires-clause-block : goal.set_at-requires-clause-block
set_at-requires-clause-block c = row_within 0 c.args.uses.now.results.items c.in-Result.block c.in-Result.number (subst (λ (r : Register). HasNumber c.args.uses.now r) c.in-Result.is c.requires)

pub set_at-requires-clause-number : goal.set_at-requires-clause-number
set_at-requires-clause-number c = subst (λ (r : Register). HasNumber c.args.uses.now r) c.in-Result.is c.requires

pub returns-in-Parameter : goal.returns-in-Parameter
returns-in-Parameter c =
    subst (λ (r : Register). IsSetTo r c.args.count c.args.uses.now (record { parameters = c.set_in.new.row; results = c.args.uses.now.results })) (sym c.in-Parameter.is)
    (parameter_set c.args.count c.args.uses.now (record { parameters = c.set_in.new.row; results = c.args.uses.now.results }) c.in-Parameter.k (subst (λ (r : Register). HasNumber c.args.uses.now r) c.in-Parameter.is c.requires) c.set_in.ensures refl)

pub returns-in-Result : goal.returns-in-Result
returns-in-Result c =
    subst (λ (r : Register). IsSetTo r c.args.count c.args.uses.now (record { parameters = c.args.uses.now.parameters; results = c.set_at.new.rows })) (sym c.in-Result.is)
    (result_set c.args.count c.args.uses.now (record { parameters = c.args.uses.now.parameters; results = c.set_at.new.rows }) c.in-Result.block c.in-Result.number (subst (λ (r : Register). HasNumber c.args.uses.now r) c.in-Result.is c.requires) c.set_at.ensures refl)
