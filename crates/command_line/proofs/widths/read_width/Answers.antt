use Rattle.command_line.proofs.Common.{◌≡◌, sym, Ok}
use Rattle.command_line.proofs.WidthLemmas.{width_found, width_missed}
use Rattle.command_line.proofs.widths.read_width.Goals as goal

pub returns-in-Err : goal.returns-in-Err
returns-in-Err c = width_missed c.args.text.now c.parse.result c.parse.ensures.value.0 (λ n is least most. let bad : Ok n ≡ c.parse.result = sym is in cc)

pub returns-then-number-le64 : goal.returns-then-number-le64
returns-then-number-le64 c = width_found c.args.text.now c.parse.result c.parse.ensures.value.0 c.in-Ok.number (sym c.if-begins_with_zero_or_plus.ensures) c.in-Ok.is c.if-number-ge1.true c.if-number-le64.true
