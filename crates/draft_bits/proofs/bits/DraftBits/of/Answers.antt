use Rattle.draft_bits.proofs.Common.{◌≡◌, List, [], length, None, Some, ap, subst, arith, slice_get, none-some, Facts, arena_of}
use Rattle.draft_bits.proofs.Made.{AreFactsSoFar, few_bits, made, one_more}
use Rattle.draft_bits.proofs.bits.DraftBits.of.Goals as goal

pub loop-block-init : goal.loop-block-init
loop-block-init c =
    let none : c.new-blocks.result.items ≡ [] = cc in
    (ap length none, λ b facts at. absurd (none-some facts (subst (λ (l : List Facts). slice_get l b ≡ Some facts) none at)))

pub facts_of-requires-clause-block : goal.facts_of-requires-clause-block
facts_of-requires-clause-block c = omega (arith, c.blocks-block-end.ensures, c.loop-block-test.true)

pub loop-block-preserved : goal.loop-block-preserved
loop-block-preserved c =
    one_more (arena_of c.args.draft.now) c.loop-block.blocks.items c.push.new.self.items c.loop-block.block c.in_ok-facts.facts c.in_ok-push.ensures.items c.in_ok-facts.ensures c.loop-block.invariant

pub returns-clause-bits : goal.returns-clause-bits
returns-clause-bits c =
    let all : c.loop-block.block ≡ length (arena_of c.args.draft.now).blocks = omega (arith, c.blocks-block-end.ensures, c.loop-block-test.false) in
    made c.reads_of_a_block_stand_before.ensures c.args.draft.now (record { blocks = c.loop-block.blocks; none = c.nothing.result; waiting = None }) c.requires.checks
    (subst (AreFactsSoFar (arena_of c.args.draft.now) c.loop-block.blocks.items) all c.loop-block.invariant) tt

pub returns-clause-few : goal.returns-clause-few
returns-clause-few c =
    few_bits (arena_of c.args.draft.now) (record { blocks = c.loop-block.blocks; none = c.nothing.result; waiting = None }) c.loop-block.block c.loop-block.invariant (ap (λ (x : Facts). x.results) c.nothing.ensures)
