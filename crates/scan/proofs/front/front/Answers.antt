use Rattle.scan.proofs.Common.{sym, ◌∙◌, length, eqb-false}
use Rattle.scan.proofs.KindLemmas.{begins_token, begins_other}
use Rattle.scan.proofs.front.front.Goals as goal

pub returns-then-found-eq0 : goal.returns-then-found-eq0
returns-then-found-eq0 c = begins_other c.args.operator c.args.text.now _ _ c.longest_token-found.ensures c.if-found-eq0.true (eqb-false (length c.args.text.now) 0 (sym c.is_empty.ensures ∙ c.if-is_empty.false)) (sym c.begins_bad.ensures ∙ c.if-begins_bad.false) c.requires

pub returns-else-found-eq0 : goal.returns-else-found-eq0
returns-else-found-eq0 c = begins_token c.args.operator c.args.text.now _ _ c.longest_token-found.ensures c.if-found-eq0.false
