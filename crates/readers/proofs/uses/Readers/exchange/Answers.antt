use Rattle.readers.proofs.Common.{[], ap, refl, sym, subst, ◌∙◌, Register, HasList, IsListSetTo, listed_for, Readers}
use Rattle.readers.proofs.Tables.{parameter_list_set, result_list_set, row_within}
use Rattle.readers.proofs.uses.Readers.exchange.Goals as goal

pub exchange_in-requires : goal.exchange_in-requires
exchange_in-requires c = subst (λ (r : Register). HasList c.args.self.now r) c.in-Parameter.is c.requires

pub exchange_at-requires-clause-block : goal.exchange_at-requires-clause-block
exchange_at-requires-clause-block c = row_within [] c.args.self.now.results.items c.in-Result.block c.in-Result.number (subst (λ (r : Register). HasList c.args.self.now r) c.in-Result.is c.requires)

pub exchange_at-requires-clause-number : goal.exchange_at-requires-clause-number
exchange_at-requires-clause-number c = subst (λ (r : Register). HasList c.args.self.now r) c.in-Result.is c.requires

pub returns-in-Parameter-clause-was : goal.returns-in-Parameter-clause-was
returns-in-Parameter-clause-was c = c.exchange_in.ensures.was ∙ ap (listed_for c.args.self.now) (sym c.in-Parameter.is)

pub returns-in-Parameter-clause-is : goal.returns-in-Parameter-clause-is
returns-in-Parameter-clause-is c =
    let old = c.args.self.now in
    let new : Readers = record { parameters = c.exchange_in.new.rows; results = old.results } in
    subst (λ (r : Register). IsListSetTo r c.args.places old new) (sym c.in-Parameter.is)
    (parameter_list_set c.args.places old new c.in-Parameter.k (subst (λ (r : Register). HasList old r) c.in-Parameter.is c.requires) c.exchange_in.ensures.is refl)

pub returns-in-Result-clause-was : goal.returns-in-Result-clause-was
returns-in-Result-clause-was c = c.exchange_at.ensures.was ∙ ap (listed_for c.args.self.now) (sym c.in-Result.is)

pub returns-in-Result-clause-is : goal.returns-in-Result-clause-is
returns-in-Result-clause-is c =
    let old = c.args.self.now in
    let new : Readers = record { parameters = old.parameters; results = c.exchange_at.new.rows } in
    subst (λ (r : Register). IsListSetTo r c.args.places old new) (sym c.in-Result.is)
    (result_list_set c.args.places old new c.in-Result.block c.in-Result.number (subst (λ (r : Register). HasList old r) c.in-Result.is c.requires) c.exchange_at.ensures.is refl)
