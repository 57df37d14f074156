use Rattle.rewriter.proofs.Common.{◌≡◌, ◌+◌, ◌-◌, ◌<◌, ◌∙◌, ℕ, List, None, ap, length, take, flat_map, get_or, refl, arith, Statement, insts_with}
use Rattle.rewriter.proofs.Counting.{all_insts}
use Rattle.rewriter.proofs.Taking.{ready_at, read_at}
use Rattle.rewriter.proofs.insts.insts_put.Goals as goal

pub push_put-requires-clause-statement : goal.push_put-requires-clause-statement
push_put-requires-clause-statement c =
    let some = c.requires.rule.target_root in
    let last : length c.as_slice-target.result.now - 1 < length c.as_slice-target.result.now = omega (arith, ap length c.as_slice-target.ensures) in
    ready_at c.args.rule.now c.args.binding.now c.requires.rule c.requires.bound c.args.results.now c.requires.results _ c.index-target-target.result
    (read_at c.args.rule.now.target c.as_slice-target.result.now _ c.index-target-target.result c.as_slice-target.ensures last c.index-target-target.is)

pub returns : goal.returns
returns c =
    let rule = c.args.rule.now in
    let s = c.index-target-target.result in
    let slice = c.as_slice-target.ensures in
    let some = c.requires.rule.target_root in
    let size = ap length slice in
    let last : ℕ = length c.as_slice-target.result.now - 1 in
    let count : last + 1 ≡ length rule.target = omega arith in
    let same : length rule.target - 1 ≡ last = omega arith in
    all_insts rule c.args.binding.now c.args.name last (take last rule.target) s c.in_ok-insts.insts c.push_put.new.insts count refl
    (c.index-target-target.is ∙ ap (λ (xs : List Statement). get_or xs last s) slice)
    (c.in_ok-insts.ensures ∙ ap (λ (n : ℕ). flat_map (insts_with rule c.args.binding.now None) (take n rule.target)) same)
    c.in_ok-push_put.ensures
