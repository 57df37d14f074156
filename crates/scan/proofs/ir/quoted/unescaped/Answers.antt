use Rattle.scan.proofs.Common.{arith, take_rest}
use Rattle.scan.proofs.QuotedLemmas.{reads_plain, reads_backslash, reads_hex, reads_other}
use Rattle.scan.proofs.ir.quoted.unescaped.Goals as goal

pub returns-then-first-ne92-clause-some : goal.returns-then-first-ne92-clause-some
returns-then-first-ne92-clause-some c = rw take_rest (reads_plain c.args.text.now (omega arith) c.if-first-ne92.true)

pub returns-in-Some-clause-some : goal.returns-in-Some-clause-some
returns-in-Some-clause-some c = reads_backslash c.args.text.now c.in-Some.behind.now (omega arith) c.if-first-ne92.false (rw take_rest at c.in-Some.ensures.some)

pub returns-in-Some-hex_byte-clause-some : goal.returns-in-Some-hex_byte-clause-some
returns-in-Some-hex_byte-clause-some c =
    let h = rw take_rest at c.in-Some-hex_byte.ensures.some in
    reads_hex c.args.text.now c.in-Some-hex_byte.behind.now h.0 h.1 c.in-Some-hex_byte.byte (omega arith) c.if-first-ne92.false h.2 h.3 h.4 h.5

pub returns-in-None-clause-some : goal.returns-in-None-clause-some
returns-in-None-clause-some c = rw take_rest (reads_other c.args.text.now (omega arith) c.if-first-ne92.false (rw take_rest at c.in_default-behind.ensures.none) (rw take_rest at c.in-None.ensures.none))
