use Rattle.ir_reader.proofs.Common.{err_from_is_err_and, seen, entry_at-is}
use Rattle.ir_reader.proofs.CheckLemmas.{entry_written}
use Rattle.ir_reader.proofs.reader.push_next.Goals as goal

pub push-requires : goal.push-requires
push-requires c =
    let before = seen c.args.tokens.now.now in
    let rest = seen c.entry.new.tokens.now in
    entry_written c.in_ok-written.written before rest (entry_at-is before (c.in_ok-written.written, rest) c.in_ok-written.ensures.read)

pub returns-clause-ok : goal.returns-clause-ok
returns-clause-ok c = (c.in_ok-written.written, c.in_ok-written.ensures.read, c.in_ok-push.ensures)

pub returns-in_err-written-clause-refused : goal.returns-in_err-written-clause-refused
returns-in_err-written-clause-refused c =
    let p = err_from_is_err_and c.from_residual.result c.from_residual.ensures.1 in
    rw (p.1, p.2) c.in_err-written.ensures.read
