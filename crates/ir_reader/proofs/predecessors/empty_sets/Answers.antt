use Rattle.ir_reader.proofs.Common.{arith, ap, length, length-append, ◌∷◌, [], ◌∙◌, list_any, nat_eq}
use Rattle.ir_reader.proofs.Sets.{empty_more}
use Rattle.ir_reader.proofs.predecessors.empty_sets.Goals as goal

pub loop-block-preserved : goal.loop-block-preserved
loop-block-preserved c = record {
  count = ap length c.in_ok-push.ensures.items ∙ length-append c.loop-block.sets.items (c.new.result ∷ []) ∙ omega arith;
  empty = empty_more c.loop-block.sets.items c.push.new.self.items c.new.result c.in_ok-push.ensures.items (λ b. ap (list_any (nat_eq b)) c.new.ensures.empty) c.loop-block.invariant.empty;
}
