use Rattle.use_counts.proofs.Common.{◌≡◌, refl, ap, ◌∙◌, ◌<◌, length, get_or, [], on_ok_weaker, Register}
use Rattle.ir_core.specs.declared.operand.Operand.TheVariants as operands
use Rattle.ir_core.specs.declared.operand.Register.TheVariants as registers
use Rattle.use_counts.proofs.Rows.{parameter_counted, result_counted, row_within}
use Rattle.use_counts.proofs.uses.Uses.count.Goals as goal

pub count_in-requires : goal.count_in-requires
count_in-requires c = c.requires (registers.Parameter c.in-Parameter.parameter) (c.in-Register.is ∙ ap (λ (r : Register). operands.Register r) c.in-Parameter.is)

pub count_at-requires-clause-block : goal.count_at-requires-clause-block
count_at-requires-clause-block c =
    row_within c.args.self.now.results.items c.in-Result.block c.in-Result.place
    (c.requires (registers.Result c.in-Result.block c.in-Result.place) (c.in-Register.is ∙ ap (λ (r : Register). operands.Register r) c.in-Result.is))

pub count_at-requires-clause-place : goal.count_at-requires-clause-place
count_at-requires-clause-place c = c.requires (registers.Result c.in-Result.block c.in-Result.place) (c.in-Register.is ∙ ap (λ (r : Register). operands.Register r) c.in-Result.is)

pub returns-in-Parameter : goal.returns-in-Parameter
returns-in-Parameter c =
    let is : c.args.operand ≡ operands.Register (registers.Parameter c.in-Parameter.parameter) = c.in-Register.is ∙ ap (λ (r : Register). operands.Register r) c.in-Parameter.is in
    on_ok_weaker c.count_in.result (λ row. parameter_counted c.args.self.now (record { parameters = c.count_in.new.row; results = c.args.self.now.results }) c.in-Parameter.parameter
    (c.requires (registers.Parameter c.in-Parameter.parameter) is) row refl c.args.operand is) c.count_in.ensures

pub returns-in-Result : goal.returns-in-Result
returns-in-Result c =
    let is : c.args.operand ≡ operands.Register (registers.Result c.in-Result.block c.in-Result.place) = c.in-Register.is ∙ ap (λ (r : Register). operands.Register r) c.in-Result.is in
    let has : c.in-Result.place < length (get_or c.args.self.now.results.items c.in-Result.block []) = c.requires (registers.Result c.in-Result.block c.in-Result.place) is in
    on_ok_weaker c.count_at.result (λ rows. result_counted c.args.self.now (record { parameters = c.args.self.now.parameters; results = c.count_at.new.rows }) c.in-Result.block c.in-Result.place
    (get_or c.args.self.now.results.items c.in-Result.block []) refl (row_within c.args.self.now.results.items c.in-Result.block c.in-Result.place has) has refl rows c.args.operand is) c.count_at.ensures
