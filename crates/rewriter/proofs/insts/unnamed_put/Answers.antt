use Rattle.rewriter.proofs.Common.{◌∙◌, ◌-◌, List, None, ap, length, take, flat_map, take_all, Statement, insts_with}
use Rattle.rewriter.proofs.Counting.{insts_more}
use Rattle.rewriter.proofs.Taking.{ready_at, taken_from}
use Rattle.rewriter.proofs.insts.unnamed_put.Goals as goal

pub push_put-requires-clause-statement : goal.push_put-requires-clause-statement
push_put-requires-clause-statement c =
    ready_at c.args.rule.now c.args.binding.now c.requires.rule c.requires.bound c.args.results.now c.requires.results c.loop-statement.statement-index c.statement-item.result
    (taken_from c.args.rule.now.target c.as_slice-target.result.now _ c.loop-statement.statement-index c.statement-item.result c.as_slice-target.ensures c.loop-statement-test.true c.statement-item.is)

pub loop-statement-preserved : goal.loop-statement-preserved
loop-statement-preserved c =
    let l = c.loop-statement in
    insts_more c.args.rule.now c.args.binding.now l.statement-index (take (length c.as_slice-target.result.now - 1) c.as_slice-target.result.now) c.statement-item.result l.insts c.push_put.new.insts
    c.loop-statement-test.true c.statement-item.is l.invariant c.in_ok-push_put.ensures

pub returns : goal.returns
returns c =
    let l = c.loop-statement in
    let slice = c.as_slice-target.result.now in
    let with = insts_with c.args.rule.now c.args.binding.now None in
    l.invariant ∙ ap (flat_map with) (take_all l.statement-index (take (length slice - 1) slice) c.loop-statement-test.false)
    ∙ ap (λ (xs : List Statement). flat_map with (take (length xs - 1) xs)) c.as_slice-target.ensures
