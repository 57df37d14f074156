use Rattle.needed.proofs.Common.{refl, ap}
use Rattle.ir_core.specs.declared.operand.Operand.TheVariants as operands
use Rattle.needed.proofs.MarkLemmas.{mark_again, mark_anew}
use Rattle.needed.proofs.search.Search.mark_register.Goals as goal

pub returns-in_ok-push : goal.returns-in_ok-push
returns-in_ok-push c =
    let r = c.in-Result in
    mark_anew c.args.numbers.now.firsts.items (operands.Register c.args.register) r.block r.place c.index.result.now c.index-in-Result.result.now c.args.self.now _ (ap (λ x. operands.Register x) r.is) c.requires
    c.index.ensures c.index-in-Result.ensures c.if-not-index.true refl c.in_ok-push.ensures.items

pub returns-else-not-index : goal.returns-else-not-index
returns-else-not-index c =
    let r = c.in-Result in
    mark_again c.args.numbers.now.firsts.items (operands.Register c.args.register) r.block r.place c.index.result.now c.index-in-Result.result.now c.args.self.now (ap (λ x. operands.Register x) r.is) c.requires
    c.index.ensures c.index-in-Result.ensures c.if-not-index.false
