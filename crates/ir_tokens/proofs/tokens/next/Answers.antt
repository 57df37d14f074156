use Rattle.ir_tokens.proofs.Common.{sym, IsNextToken, IsBadToken, IsKeptLine, IsGroup, HasNoGroup, itself, kept_line, kept_group, unclosed, bad_byte}
use Rattle.ir_tokens.proofs.tokens.next.Goals as goal

pub returns-in-Err-clause-token : goal.returns-in-Err-clause-token
returns-in-Err-clause-token c =
    let next : IsBadToken c.args.text.now c.args.cursor.now.at c.in-Err.field-0.line = rw (← c.requires.text) c.in-Err.ensures.bad in
    rw c.in-Err.ensures.stays (bad_byte c.in-Err.field-0.line next)

pub returns-in-Itself-clause-token : goal.returns-in-Itself-clause-token
returns-in-Itself-clause-token c =
    let next : IsNextToken c.args.text.now c.args.cursor.now.at c.in-Ok.scanned = rw (← c.requires.text) c.in-Ok.ensures.token in
    rw (c.token_of.ensures, c.bytes-bytes.ensures, c.in-Ok.ensures.goes) (itself c.in-Ok.scanned next (rw (← c.bytes-bytes.ensures) (sym c.in-Itself.ensures)))

pub returns-in-Line-clause-token : goal.returns-in-Line-clause-token
returns-in-Line-clause-token c =
    let next : IsNextToken c.args.text.now c.args.cursor.now.at c.in-Ok.scanned = rw (← c.requires.text) c.in-Ok.ensures.token in
    let kept : IsKeptLine c.args.text.now c.in-Ok.scanned.span.end c.take_line-rest.result = rw (← c.requires.text, ← c.in-Ok.ensures.text, ← c.in-Ok.ensures.goes) c.take_line-rest.ensures.line in
    rw (c.take_line-rest.ensures.goes, c.in-Ok.ensures.text, c.requires.text, c.in-Ok.ensures.goes) (kept_line c.in-Ok.scanned c.take_line-rest.result next (rw (← c.bytes-bytes.ensures) (sym c.in-Line.ensures)) kept)

pub returns-in-Some-clause-token : goal.returns-in-Some-clause-token
returns-in-Some-clause-token c =
    let next : IsNextToken c.args.text.now c.args.cursor.now.at c.in-Ok.scanned = rw (← c.requires.text) c.in-Ok.ensures.token in
    let kept : IsGroup c.args.text.now c.in-Ok.scanned.span.end c.in-Some.rest = rw (← c.requires.text, ← c.in-Ok.ensures.text, ← c.in-Ok.ensures.goes) c.in-Some.ensures.group in
    rw c.in-Some.ensures.goes (kept_group c.in-Ok.scanned c.in-Some.rest next (rw (← c.bytes-bytes.ensures) (sym c.in-Group.ensures)) kept)

pub returns-in-None-clause-token : goal.returns-in-None-clause-token
returns-in-None-clause-token c =
    let next : IsNextToken c.args.text.now c.args.cursor.now.at c.in-Ok.scanned = rw (← c.requires.text) c.in-Ok.ensures.token in
    let none : HasNoGroup c.args.text.now c.in-Ok.scanned.span.end = rw (← c.requires.text, ← c.in-Ok.ensures.text, ← c.in-Ok.ensures.goes) c.in-None.ensures.none in
    rw (c.in-None.ensures.stays, c.in-Ok.ensures.goes) (unclosed c.in-Ok.scanned next (rw (← c.bytes-bytes.ensures) (sym c.in-Group.ensures)) none)
