use Rattle.rule_reader.proofs.Common.{arith, IsUnused}
use Rattle.rule_reader.proofs.Places.{read_at}
use Rattle.rule_reader.proofs.Firsts.{first_here, first_none, none_more}
use Rattle.rule_reader.proofs.Looking.{says, denies}
use Rattle.rule_reader.proofs.checks.unused.Goals as goal

pub returns-then-is_unused : goal.returns-then-is_unused
returns-then-is_unused c =
    let source = c.args.source.now in
    let s = c.index-source-place.result in
    let at = read_at source c.loop-place.place s (omega arith) c.index-source-place.is in
    first_here source (IsUnused source) c.loop-place.place s c.requires c.loop-place.invariant at
    (says _ _ (c.is_unused.ensures s at) c.if-is_unused.true)

pub loop-place-preserved : goal.loop-place-preserved
loop-place-preserved c =
    let source = c.args.source.now in
    let s = c.index-source-place.result in
    let at = read_at source c.loop-place.place s (omega arith) c.index-source-place.is in
    none_more source (IsUnused source) c.loop-place.place s c.loop-place.invariant at
    (denies _ _ (c.is_unused.ensures s at) c.if-is_unused.false)

pub returns : goal.returns
returns c =
    let source = c.args.source.now in
    first_none source (IsUnused source) (λ k s lt. c.loop-place.invariant k s (omega arith))
