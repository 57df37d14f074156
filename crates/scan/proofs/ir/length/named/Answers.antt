use Rattle.scan.proofs.Common.{is_name}
use Rattle.scan.proofs.NameLemmas.{is_name-empty}
use Rattle.scan.proofs.ModuleFronts.{behind_short}
use Rattle.scan.proofs.ir.length.named.Goals as goal

pub returns-then-name-eq0 : goal.returns-then-name-eq0
returns-then-name-eq0 c = behind_short c.args.mark is_name c.args.text.now c.in-Some.behind.now c.name-name.result c.in-Some.ensures.some c.if-name-eq0.true is_name-empty c.name-name.ensures
