use Rattle.rewriter.proofs.Common.{◌≡◌, ◌-◌, ◌∙◌, List, ap, length, get_or, arith, Inst, Rewrite, results_put, insts_put}
use Rattle.ir_core.specs.declared.operand.Operand.{Operand}
use Rattle.ir_core.specs.declared.operand.Operand.TheVariants as operands
use Rattle.rewriter.proofs.Taking.{last_is}
use Rattle.rewriter.proofs.Counting.{results-length}
use Rattle.rewriter.proofs.insts.rewrite_of.Goals as goal

pub index-requires : goal.index-requires
index-requires c =
    let some = c.requires.rule.target_root in
    let size = ap length c.in_ok-results.ensures in
    let whole = c.in_ok-results.results.ok.0 in
    let count = c.len.ensures in
    omega (arith, results-length c.args.rule.now c.args.binding.now)

pub returns : goal.returns
returns c =
    let rule = c.args.rule.now in
    let binding = c.args.binding.now in
    let some = c.requires.rule.target_root in
    let size = ap length c.in_ok-results.ensures in
    let whole = c.in_ok-results.results.ok.0 in
    let count = c.len.ensures in
    let with_put : List Inst → Operand → Rewrite = λ p r. record { block = binding.block; place = binding.place; put = p; result = r } in
    let last : c.index.result.now ≡ get_or (results_put rule binding) (length rule.target - 1) operands.Poison =
    last_is (results_put rule binding) c.in_ok-results.results.items (length rule.target - 1) (c.len.result - 1) c.index.result.now operands.Poison c.in_ok-results.ensures (ap (λ n. n - 1) count) (omega (arith, results-length rule binding)) c.index.ensures in
    ap (λ p. with_put p c.index.result.now) c.in_ok-put.ensures ∙ ap (with_put (insts_put rule binding c.args.name rule.target)) last
