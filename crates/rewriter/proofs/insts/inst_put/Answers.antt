-- A statement as an instruction computes what its operation does.
use Rattle.rewriter.proofs.Common.{◌≡◌, ◌∙◌, ℕ, List, Option, Some, ap, map, refl, option_to_list, Name, Inst, Copy, Rule, Binding, class_width, insts_of_op, results_put, op_put}
use Rattle.ir_core.specs.declared.instruction.Op.{Op}
use Rattle.ir_core.specs.declared.operand.Operand.{Operand}
use Rattle.rule_core.specs.declared.rule.Op.{Op as RuleOp}
use Rattle.rule_core.specs.declared.rule.Op.TheVariants.{Binary, Compare, Unary, Select, Convert, Freeze}
use Rattle.rewriter.proofs.insts.inst_put.Goals as goal

abbrev one_of : Name → ℕ → Option Op → List Inst
one_of name N op = map (λ (o : Op). let inst : Inst = record { name = name; width = N; op = o } in inst) (option_to_list op)

insts_by_op : (rule : Rule) (binding : Binding) (name : Name) (N : ℕ) (op : RuleOp) → one_of name N (op_put rule binding (results_put rule binding) op) ≡ insts_of_op rule binding name N op
insts_by_op rule binding name N (Binary opcode flags a b) = refl
insts_by_op rule binding name N (Compare pred samesign a b) = refl
insts_by_op rule binding name N (Unary op truth a) = refl
insts_by_op rule binding name N (Select c a b) = refl
insts_by_op rule binding name N (Convert cast flags a to) = refl
insts_by_op rule binding name N (Freeze a k) = refl
insts_by_op rule binding name N (Copy a) = refl

pub returns : goal.returns
returns c =
    let rule = c.args.rule.now in
    let binding = c.args.binding.now in
    let s = c.args.statement.now in
    let N = class_width rule binding s.class in
    ap (λ (n : ℕ). one_of c.args.name n (Some c.in_ok-op.op)) c.class_width.ensures
    ∙ ap (one_of c.args.name N) c.in_ok-op.ensures
    ∙ ap (λ (results : List Operand). one_of c.args.name N (op_put rule binding results s.op)) c.requires.results
    ∙ insts_by_op rule binding c.args.name N s.op
