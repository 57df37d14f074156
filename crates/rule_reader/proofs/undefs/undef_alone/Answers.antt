use Rattle.rule_reader.proofs.Common.{arith, ReadsUndefAlone}
use Rattle.rule_reader.proofs.Places.{read_at}
use Rattle.rule_reader.proofs.Firsts.{first_here, first_none, none_more}
use Rattle.rule_reader.proofs.Looking.{says, denies}
use Rattle.rule_reader.proofs.undefs.undef_alone.Goals as goal

pub returns-then-reads_undef_alone : goal.returns-then-reads_undef_alone
returns-then-reads_undef_alone c =
    let target = c.args.target.now in
    let s = c.statement-item.result in
    let at = read_at target c.loop-statement.statement-index s (omega arith) c.statement-item.is in
    first_here target (λ k s. ReadsUndefAlone s.op) c.loop-statement.statement-index s c.requires c.loop-statement.invariant at (says _ _ c.reads_undef_alone.ensures c.if-reads_undef_alone.true)

pub loop-statement-preserved : goal.loop-statement-preserved
loop-statement-preserved c =
    let target = c.args.target.now in
    let s = c.statement-item.result in
    let at = read_at target c.loop-statement.statement-index s (omega arith) c.statement-item.is in
    none_more target (λ k s. ReadsUndefAlone s.op) c.loop-statement.statement-index s c.loop-statement.invariant at (denies _ _ c.reads_undef_alone.ensures c.if-reads_undef_alone.false)

pub returns : goal.returns
returns c = first_none c.args.target.now (λ k s. ReadsUndefAlone s.op) (λ k s lt. c.loop-statement.invariant k s (omega arith))
