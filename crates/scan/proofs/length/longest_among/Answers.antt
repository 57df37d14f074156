use Rattle.scan.proofs.Common.{arith}
use Rattle.scan.proofs.Fronts.{words_more, words_all}
use Rattle.scan.proofs.length.longest_among.Goals as goal

pub loop-word-preserved : goal.loop-word-preserved
loop-word-preserved c = words_more (λ w. w.now) c.args.words.now c.loop-word.word-index _ c.args.text.now c.with_word-longest.result (omega arith) (c.with_word-longest.ensures _ c.loop-word.invariant)

pub returns : goal.returns
returns c = words_all (λ w. w.now) c.args.words.now c.loop-word.word-index c.args.text.now c.loop-word.longest (omega arith) c.loop-word.invariant
