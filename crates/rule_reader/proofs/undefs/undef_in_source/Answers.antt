use Rattle.rule_reader.proofs.Common.{arith, HasUndefInside}
use Rattle.rule_reader.proofs.Places.{read_at}
use Rattle.rule_reader.proofs.Firsts.{first_here, first_none, none_more}
use Rattle.rule_reader.proofs.Looking.{says, denies}
use Rattle.rule_reader.proofs.undefs.undef_in_source.Goals as goal

pub returns-then-is_inside : goal.returns-then-is_inside
returns-then-is_inside c =
    let source = c.args.source.now in
    let s = c.index-source-place.result in
    let at = read_at source c.loop-place.place s (omega arith) c.index-source-place.is in
    first_here source (HasUndefInside source) c.loop-place.place s c.requires c.loop-place.invariant at (says _ _ (c.is_inside.ensures s at) c.if-is_inside.true)

pub loop-place-preserved : goal.loop-place-preserved
loop-place-preserved c =
    let source = c.args.source.now in
    let s = c.index-source-place.result in
    let at = read_at source c.loop-place.place s (omega arith) c.index-source-place.is in
    none_more source (HasUndefInside source) c.loop-place.place s c.loop-place.invariant at (denies _ _ (c.is_inside.ensures s at) c.if-is_inside.false)

pub returns : goal.returns
returns c = first_none c.args.source.now (HasUndefInside c.args.source.now) (λ k s lt. c.loop-place.invariant k s (omega arith))
