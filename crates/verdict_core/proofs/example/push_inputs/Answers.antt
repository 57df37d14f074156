use Rattle.verdict_core.proofs.Common.{◌++◌, codes, rules, line_text, inputs_text}
use Rattle.verdict_core.proofs.Lines.{pair_more, pairs_end}
use Rattle.verdict_core.proofs.example.push_inputs.Goals as goal

pub loop-name-preserved : goal.loop-name-preserved
unfolding inputs_text
loop-name-preserved c =
    pair_more (λ line. line_text (codes "%" ++ line.0) line.1) c.loop-name.name-iterator c.next.new.self c.next.result (c.in-Some.name, c.in-Some.value) c.loop-name.out.items c.push_line.new.out.items _ c.in-Some.is c.next.ensures.steps c.loop-name.invariant (search rules)

pub returns : goal.returns
unfolding inputs_text
returns c =
    pairs_end (λ line. line_text (codes "%" ++ line.0) line.1) c.loop-name.name-iterator c.next.new.self c.next.result c.loop-name.out.items _ c.in-None.is c.next.ensures.steps c.loop-name.invariant
