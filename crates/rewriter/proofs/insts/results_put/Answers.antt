use Rattle.rewriter.proofs.Common.{◌≡◌, ℕ, ◌+◌, ◌<◌, ◌∙◌, List, [], ◌∷◌, ◌++◌, length, take, Some, refl, sym, ap, subst, arith, get_or, slice_get, slice_get_read, Statement, count_put, result_put}
use Rattle.ir_core.specs.declared.operand.Operand.{Operand}
use Rattle.rewriter.proofs.Counting.{ArePut, put_copied, put_other, all_put}
use Rattle.rewriter.proofs.Readying.{statement_ready}
use Rattle.rewriter.proofs.insts.results_put.Goals as goal
use Rattle.rewriter.proofs.insts.results_put.Goals.{then-not-is_copy, else-not-is_copy}

-- the statement that is read is the one with this index
stands : (target slice : List Statement) (k : ℕ) (s : Statement) → slice ≡ target → k < length target → s ≡ get_or slice k s → slice_get target k ≡ Some s
stands target slice k s same within is = slice_get_read target (length target) k s refl within (rw same at is)

pub result_put-result-requires-clause-statement : goal.result_put-result-requires-clause-statement
result_put-result-requires-clause-statement c =
    let l = c.loop-statement in
    let size = l.invariant.size in
    let at = stands c.args.rule.now.target c.as_slice-statement-items.result.now l.statement-index c.statement-item.result c.as_slice-statement-items.ensures (omega (arith, ap length c.as_slice-statement-items.ensures)) c.statement-item.is in
    rw c.deref.ensures.value (statement_ready c.args.rule.now c.args.binding.now c.requires.rule c.requires.bound l.statement-index (length l.results.items) c.statement-item.result (omega arith) at)

pub result_put-result-requires-clause-count : goal.result_put-result-requires-clause-count
result_put-result-requires-clause-count c =
    let l = c.loop-statement in
    rw c.deref.ensures.value (l.invariant.counted ∙ ap (λ n. count_put (take n c.args.rule.now.target)) (sym l.invariant.size))

pub result_put-result-requires-clause-place : goal.result_put-result-requires-clause-place
result_put-result-requires-clause-place c =
    let few = c.loop-statement.invariant.few in
    let test = c.loop-statement-test.true in
    let most = c.requires.rule.few_in_target in
    omega (arith, ap length c.as_slice-statement-items.ensures)

pub loop-statement-preserved : goal.loop-statement-preserved
loop-statement-preserved c =
    let rule = c.args.rule.now in
    let binding = c.args.binding.now in
    let l = c.loop-statement in
    let s = c.statement-item.result in
    let slice = c.as_slice-statement-items.ensures in
    let test = c.loop-statement-test.true in
    let within : l.statement-index < length rule.target = omega (arith, ap length slice) in
    let read : s ≡ get_or rule.target l.statement-index s = c.statement-item.is ∙ ap (λ (xs : List Statement). get_or xs l.statement-index s) slice in
    let is : c.result_put-result.result ≡ result_put rule binding l.results.items s = c.result_put-result.ensures ∙ ap (λ (xs : List Operand). result_put rule binding xs s) c.deref.ensures.value in
    subst (λ (xs : List Operand). ArePut rule binding (l.statement-index + 1) xs c.if-not-is_copy.count) (sym c.in_ok-push.ensures.items)
    (elim c.if-not-is_copy.branch [
      | then-not-is_copy w ↦ subst (ArePut rule binding (l.statement-index + 1) (l.results.items ++ c.result_put-result.result ∷ [])) (sym w.count-is)
          (put_other rule binding l.statement-index l.results.items l.count c.result_put-result.result s l.invariant within read is (sym c.is_copy.ensures ∙ w.if-not-is_copy.true))
      | else-not-is_copy w ↦ subst (ArePut rule binding (l.statement-index + 1) (l.results.items ++ c.result_put-result.result ∷ [])) (sym w.count-is)
          (put_copied rule binding l.statement-index l.results.items l.count c.result_put-result.result s l.invariant within read is (sym c.is_copy.ensures ∙ w.if-not-is_copy.false))
    ])

pub returns : goal.returns
returns c =
    let l = c.loop-statement in
    all_put c.args.rule.now c.args.binding.now l.statement-index l.results.items l.count l.invariant (omega (arith, ap length c.as_slice-statement-items.ensures))
