use Rattle.readers.proofs.Common.{[], refl, sym, subst, on_ok_weaker, Register, HasList, IsListed, Readers}
use Rattle.ir_core.specs.declared.operand.Register.TheVariants as registers
use Rattle.readers.proofs.Tables.{listed_in, parameter_list_set, result_list_set, row_within}
use Rattle.readers.proofs.uses.Readers.list.Goals as goal

pub list_in-requires : goal.list_in-requires
list_in-requires c = subst (λ (r : Register). HasList c.args.self.now r) c.in-Parameter.is c.requires

pub list_at-requires-clause-block : goal.list_at-requires-clause-block
list_at-requires-clause-block c = row_within [] c.args.self.now.results.items c.in-Result.block c.in-Result.number (subst (λ (r : Register). HasList c.args.self.now r) c.in-Result.is c.requires)

pub list_at-requires-clause-number : goal.list_at-requires-clause-number
list_at-requires-clause-number c = subst (λ (r : Register). HasList c.args.self.now r) c.in-Result.is c.requires

pub returns-in-Parameter-clause-listed : goal.returns-in-Parameter-clause-listed
returns-in-Parameter-clause-listed c =
    let old = c.args.self.now in
    let new : Readers = record { parameters = c.list_in.new.rows; results = old.results } in
    let has = subst (λ (r : Register). HasList old r) c.in-Parameter.is c.requires in
    on_ok_weaker c.list_in.result (λ found. subst (λ (r : Register). IsListed r c.args.place old new) (sym c.in-Parameter.is)
    (listed_in (registers.Parameter c.in-Parameter.k) c.args.place found.0 old new found.1 (parameter_list_set found.0 old new c.in-Parameter.k has found.2 refl))) c.list_in.ensures.listed

pub returns-in-Result-clause-listed : goal.returns-in-Result-clause-listed
returns-in-Result-clause-listed c =
    let old = c.args.self.now in
    let new : Readers = record { parameters = old.parameters; results = c.list_at.new.rows } in
    let has = subst (λ (r : Register). HasList old r) c.in-Result.is c.requires in
    on_ok_weaker c.list_at.result (λ found. subst (λ (r : Register). IsListed r c.args.place old new) (sym c.in-Result.is)
    (listed_in (registers.Result c.in-Result.block c.in-Result.number) c.args.place found.0 old new found.1 (result_list_set found.0 old new c.in-Result.block c.in-Result.number has found.2 refl))) c.list_at.ensures.listed
